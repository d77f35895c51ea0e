use Rattle.std.proofs.Common.{string_bytes, zero-add}
use Rattle.texts.proofs.Pieces.{each_more}
use Rattle.listings.specs.Lists.{lists_in}
use Rattle.views.specs.Drawings.{edge_text}
use Rattle.views.proofs.drawings.push_edges.Goals as goal

pub loop-input-preserved : goal.loop-input-preserved
loop-input-preserved c =
    let i = c.loop-input.input in
    each_more (edge_text (lists_in c.args.reduction.now) c.args.class) (string_bytes c.args.text.now) (string_bytes c.loop-input.text) _ 0 i i
    c.loop-input.invariant c.in_ok-push_edge.ensures (zero-add i)
