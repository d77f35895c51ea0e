use Rattle.std.proofs.Common.{◌≡◌, ℕ, List, ◌++◌, vec_items, string_bytes, codes, decimal, ap, ◌∙◌, append_assoc}
use Rattle.std.proofs.lemmas.Result.{IfOk-weaker}
use Rattle.texts.specs.Numbers.{numbers_text}
use Rattle.texts.proofs.Joining.{joined}
use Rattle.texts.proofs.Pieces.{numbers_printed}
use Rattle.listings.specs.Lines.{apart_text}
use Rattle.reductions.specs.Aparts.{apart_of}
use Rattle.listings.proofs.lines.push_apart.Goals as goal

pub returns : goal.returns
returns c =
    let r = c.write-2.result in
    let apart = c.args.apart.now in
    let head = string_bytes c.write.new.self in
    let numbers = string_bytes c.push_each.new.text in
    let word = numbers_text (vec_items apart.word) in
    let front = codes "apart " ++ (decimal apart.first ++ (codes " " ++ (decimal apart.second ++ codes " by"))) in
    let same : front ++ (word ++ codes "\n") ≡ apart_text (apart_of apart) = simp append_assoc in
    let pushed = numbers_printed _ _ _ c.in_ok-push_each.ensures ∙ ap (λ (x : List ℕ). head ++ numbers_text x) c.deref.ensures.value in
    let end = joined r head numbers _ word (codes "\n") pushed c.write-2.ensures.bytes in
    IfOk-weaker r _ _ (λ _ h. h ∙ ap (λ (t : List ℕ). string_bytes c.args.text.now ++ t) same)
    (joined r (string_bytes c.args.text.now) head _ front _ c.in_ok-write.ensures.bytes end)
