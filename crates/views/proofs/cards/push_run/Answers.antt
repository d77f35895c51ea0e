use Rattle.std.proofs.Common.{◌≡◌, ℕ, List, ◌++◌, string_bytes, codes, decimal, ap, ◌∙◌, append_assoc}
use Rattle.std.proofs.lemmas.Result.{IfOk-weaker}
use Rattle.listings.specs.Lists.{Lists, lists_in}
use Rattle.texts.specs.Numbers.{numbers_text}
use Rattle.texts.proofs.Joining.{joined}
use Rattle.views.specs.Cards.{shows, run_text}
use Rattle.views.proofs.cards.push_run.Goals as goal

pub returns : goal.returns
returns c =
    let r = c.write-2.result in
    let lists : Lists = lists_in c.args.reduction.now in
    let mode : ℕ = c.args.mode in
    let w : List ℕ = c.args.word.now in
    let old : List ℕ = string_bytes c.args.text.now in
    let head : List ℕ = string_bytes c.write.new.self in
    let ran = c.in_ok-last.ensures in
    let front : List ℕ = codes "; " ++ (decimal mode ++ codes " shows") in
    let outs : List ℕ = numbers_text (shows lists mode w) in
    let last : ℕ = c.in_ok-last.last in
    let same : front ++ (outs ++ (codes " and is then " ++ decimal last)) ≡ run_text lists mode w =
    ap (λ (x : ℕ). front ++ (outs ++ (codes " and is then " ++ decimal x))) ran.ended ∙ simp append_assoc in
    let end = joined r head (string_bytes c.push_answers.new.text) _ outs (codes " and is then " ++ decimal last) ran.added c.write-2.ensures.bytes in
    IfOk-weaker r _ _ (λ _ h. h ∙ ap (λ (t : List ℕ). old ++ t) same) (joined r old head _ front _ c.in_ok-write.ensures.bytes end)
