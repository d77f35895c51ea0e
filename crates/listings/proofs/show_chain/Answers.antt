use Rattle.std.proofs.Common.{ℕ, List, ◌++◌, Ok, Err, refl, ap, ◌∙◌}
use Rattle.std.proofs.lemmas.Result.{IfOk-weaker}
use Rattle.forms.specs.Forms.{chain_of}
use Rattle.listings.specs.Lists.{Lists, lists_in}
use Rattle.listings.proofs.Reduced.{lists_are}
use Rattle.listings.proofs.show_chain.Goals as goal

pub returns-in_ok-push-in-Ok : goal.returns-in_ok-push-in-Ok
returns-in_ok-push-in-Ok g c =
    let m = chain_of c.args.chain in
    let x = c.in-Ok.reduction in
    let is = c.in-Ok.ensures in
    let shown : Lists → List ℕ = g.V.View.shown c.args.view.now in (
      Ok tt,
      is.sound,
      c.in_ok-push-in-Ok.ensures ∙ ap (λ (t : List ℕ). t ++ shown (lists_in x)) c.new-text.ensures.bytes ∙ ap shown (lists_are m x is),
      refl,
    )

pub returns-in-Err-Unsound : goal.returns-in-Err-Unsound
returns-in-Err-Unsound g c =
    let refused = rw c.in-Err-Unsound.field-0-is at c.in-Err-Unsound.ensures in
    IfOk-weaker c.of_unsound.result _ _ (λ x told. (Err c.in-Err-Unsound.refusal, refused, told.0, told.1)) c.of_unsound.ensures
