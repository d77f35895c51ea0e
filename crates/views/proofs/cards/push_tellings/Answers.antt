use Rattle.std.proofs.Common.{string_bytes}
use Rattle.listings.specs.Lists.{lists_in}
use Rattle.reductions.specs.Aparts.{apart_of}
use Rattle.texts.proofs.Pieces.{each_item}
use Rattle.views.specs.Cards.{telling_text}
use Rattle.views.proofs.cards.push_tellings.Goals as goal

pub loop-apart-preserved : goal.loop-apart-preserved
loop-apart-preserved c =
    each_item (telling_text (lists_in c.args.reduction.now)) apart_of (string_bytes c.args.text.now) (string_bytes c.loop-apart.text) _
    c.deref-apart-items.result.now c.loop-apart.apart-index c.apart-item.result c.loop-apart-test.true c.apart-item.is
    c.loop-apart.invariant c.in_ok-push_telling.ensures
