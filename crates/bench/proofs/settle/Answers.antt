use Rattle.std.proofs.Common.{sym, ap, ◌∙◌}
use Rattle.std.proofs.lemmas.Result.{err_from_is_err_and}
use Rattle.sheet.specs.Replies.{settle_reply}
use Rattle.bench.proofs.Mapped.{ok_before}
use Rattle.bench.proofs.settle.Goals as goal

pub returns-in_err-elapsed : goal.returns-in_err-elapsed
returns-in_err-elapsed g c =
    let p = err_from_is_err_and c.from_residual-in_err-elapsed.result c.from_residual-in_err-elapsed.ensures.1 in rw p.1 tt

pub returns : goal.returns
returns g c =
    sym (ok_before c.settle.result c.map_err.result c.in_ok-answer.answer _ c.map_err.ensures.cases c.in_ok-answer.was)
    ∙ (c.settle.ensures.answer ∙ ap settle_reply c.open-sheet.ensures.stage)
