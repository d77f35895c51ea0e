use Rattle.sheet.specs.Standing.{stage_of}
use Rattle.sheet.proofs.Answering.{closed, open_so}
use Rattle.sheet.proofs.Keeping.{known}
use Rattle.sheet.proofs.Meaning.{round_means}
use Rattle.std.proofs.lemmas.Result.{err_from_is_err_and}
use Rattle.sheet.proofs.Sheet.round.Goals as goal

pub returns-in_err-still_open-clause-answer : goal.returns-in_err-still_open-clause-answer
returns-in_err-still_open-clause-answer g c =
    let p = err_from_is_err_and c.from_residual.result c.from_residual.ensures.1 in
    rw (p.1, p.2) (closed (stage_of c.args.self.now) tt _ _ c.in_err-still_open.ensures)

pub advance-requires : goal.advance-requires
advance-requires g c = open_so (stage_of c.args.self.now) tt tt c.in_ok-still_open.ensures

pub returns-clause-means : goal.returns-clause-means
returns-clause-means g c =
    let a = c.args.self.now in
    round_means (stage_of a) (known a (g.met.M.Machine.sizes a.machine) (g.met.M.Machine.closed a.machine)) _ c.advance.ensures.answer
