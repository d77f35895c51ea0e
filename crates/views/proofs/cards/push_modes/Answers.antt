use Rattle.std.proofs.Common.{ℕ, List, ◌++◌, vec_items, string_bytes, ap, ◌∙◌, zero-add}
use Rattle.texts.proofs.Pieces.{each_more}
use Rattle.views.specs.Cards.{mode_text}
use Rattle.views.proofs.cards.push_modes.Goals as goal

pub loop-class-preserved : goal.loop-class-preserved
loop-class-preserved c =
    let i : ℕ = c.loop-class.class in
    let old : List ℕ = string_bytes c.loop-class.text in
    each_more (mode_text (vec_items c.args.reduction.now.map)) (string_bytes c.args.text.now) old _ 0 i i c.loop-class.invariant
    (c.in_ok-push_mode.ensures ∙ ap (λ (x : List ℕ). old ++ mode_text x i) c.deref.ensures.value) (zero-add i)
