use Rattle.std.proofs.Common.{◌≡◌, ℕ, List, ◌++◌, vec_items, string_bytes, codes, decimal, ap, ◌∙◌, append_assoc}
use Rattle.std.proofs.lemmas.Result.{IfOk-weaker}
use Rattle.listings.specs.Lists.{Lists, lists_in}
use Rattle.texts.specs.Numbers.{numbers_text}
use Rattle.texts.proofs.Joining.{joined}
use Rattle.texts.proofs.Pieces.{numbers_printed}
use Rattle.reductions.specs.Aparts.{apart_of}
use Rattle.views.specs.Cards.{run_text, telling_text}
use Rattle.views.proofs.cards.push_telling.Goals as goal

pub returns : goal.returns
returns c =
    let r = c.write-2.result in
    let lists : Lists = lists_in c.args.reduction.now in
    let apart = c.args.apart.now in
    let w : List ℕ = vec_items apart.word in
    let old : List ℕ = string_bytes c.args.text.now in
    let a : List ℕ = string_bytes c.write.new.self in
    let b : List ℕ = string_bytes c.push_each.new.text in
    let d : List ℕ = string_bytes c.push_run.new.text in
    let f : List ℕ = string_bytes c.push_run-2.new.text in
    let front : List ℕ = codes "mode " ++ (decimal apart.first ++ (codes " or " ++ (decimal apart.second ++ codes ": press"))) in
    let one : List ℕ = run_text lists apart.first w in
    let two : List ℕ = run_text lists apart.second w in
    let same : front ++ (numbers_text w ++ (one ++ (two ++ codes "\n"))) ≡ telling_text lists (apart_of apart) = simp append_assoc in
    let keys = numbers_printed _ _ _ c.in_ok-push_each.ensures ∙ ap (λ (x : List ℕ). a ++ numbers_text x) c.deref.ensures.value in
    let first = c.in_ok-push_run.ensures ∙ ap (λ (x : List ℕ). b ++ run_text lists apart.first x) c.deref-2.ensures.value in
    let second = c.in_ok-push_run-2.ensures ∙ ap (λ (x : List ℕ). d ++ run_text lists apart.second x) c.deref-3.ensures.value in
    let e1 = joined r d f _ two (codes "\n") second c.write-2.ensures.bytes in
    let e2 = joined r b d _ one (two ++ codes "\n") first e1 in
    let e3 = joined r a b _ (numbers_text w) (one ++ (two ++ codes "\n")) keys e2 in
    IfOk-weaker r _ _ (λ _ h. h ∙ ap (λ (t : List ℕ). old ++ t) same) (joined r old a _ front _ c.in_ok-write.ensures.bytes e3)
