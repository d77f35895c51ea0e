use Rattle.std.proofs.Common.{string_bytes, zero-add}
use Rattle.texts.proofs.Pieces.{each_more}
use Rattle.listings.specs.Lists.{lists_in}
use Rattle.views.specs.Drawings.{class_text}
use Rattle.views.proofs.drawings.push_classes.Goals as goal

pub loop-class-preserved : goal.loop-class-preserved
loop-class-preserved c =
    let i = c.loop-class.class in
    each_more (class_text (lists_in c.args.reduction.now)) (string_bytes c.args.text.now) (string_bytes c.loop-class.text) _ 0 i i
    c.loop-class.invariant c.in_ok-push_class.ensures (zero-add i)
