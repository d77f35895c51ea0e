use Rattle.std.proofs.Common.{◌≡◌, ℕ, length, take, is_ok, sym, ap, ◌∙◌, arith}
use Rattle.std.proofs.lemmas.List.{take_at}
use Rattle.std.proofs.lemmas.Result.{IfOk-from_err}
use Rattle.std.proofs.lemmas.Bool.{true≢false}
use Rattle.sheet.specs.Replies.{word_reply}
use Rattle.sheet.specs.Stage.{Stage}
use Rattle.sheet.specs.Standing.{stage_of}
use Rattle.reductions.proofs.Written.{word_written}
use Rattle.reductions.proofs.handing.Done.word.Goals as goal

pub returns-in_err-word : goal.returns-in_err-word
returns-in_err-word g c = IfOk-from_err _ _ c.from_residual.ensures.0

pub unreachable-requires : goal.unreachable-requires
unreachable-requires g c =
    let t : Stage = stage_of c.args.self.now.sheet in
    let size : length c.deref_mut.result.now ≡ 128 =
    omega (arith, c.deref_mut.ensures.len, c.in_ok-word.ensures.len) in
    true≢false (sym c.requires.told
    ∙ ap (λ (n : ℕ). is_ok (word_reply t c.args.s c.args.t n)) (sym size)
    ∙ ap is_ok (sym c.word.ensures.answer ∙ c.in_default.is))

pub returns : goal.returns
returns g c =
    let t : Stage = stage_of c.args.self.now.sheet in
    let n = c.in-Ok.length in
    let whole = take_at c.word.new.out _ _ (omega (arith, c.word.auto.out, c.deref_mut.ensures.len)) in
    c.truncate.ensures.items ∙ ap (take n) whole
    ∙ word_written t c.args.s c.args.t n c.deref_mut.result.now c.word.new.out
    (sym c.in-Ok.is ∙ c.word.ensures.answer) c.word.ensures.buffer
