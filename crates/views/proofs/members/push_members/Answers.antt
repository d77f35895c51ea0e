use Rattle.std.proofs.Common.{◌≡◌, ℕ, eqb, List, ◌++◌, get_or, string_bytes, sym, ap, ◌∙◌, append-nil, zero-add, Bool}
use Rattle.std.proofs.lemmas.Bool.{eq-eqb, ne_eqb}
use Rattle.texts.proofs.Pieces.{each_more}
use Rattle.views.specs.Members.{member_text}
use Rattle.views.proofs.members.push_members.Goals.{then-own-class+in_ok-write, else-own-class}
use Rattle.views.proofs.members.push_members.Goals as goal

pub loop-state-preserved : goal.loop-state-preserved
loop-state-preserved c =
    let i : ℕ = c.loop-state.state-counter in
    let f : ℕ → List ℕ = λ s. member_text (eqb (get_or c.args.numbering.now s 0) c.args.class) s in
    let own : ℕ = get_or c.args.numbering.now i 0 in
    let text : List ℕ = string_bytes c.loop-state.text in
    let told = λ (b : Bool). text ++ member_text b i in
    let more : string_bytes c.if-own-class.text ≡ text ++ f i =
    elim c.if-own-class.branch [
      | then-own-class+in_ok-write w ↦ ap string_bytes w.text-is ∙ w.in_ok-write.ensures.bytes ∙ ap told (sym (eq-eqb own c.args.class w.if-own-class.true))
      | else-own-class w ↦ ap string_bytes w.text-is ∙ sym (append-nil text) ∙ ap told (sym (ne_eqb own c.args.class w.if-own-class.false))
    ] in
    each_more f (string_bytes c.args.text.now) text _ 0 i i c.loop-state.invariant more (zero-add i)
