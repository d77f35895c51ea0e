use Rattle.std.proofs.lemmas.Result.{err_from_is_err_and}
use Rattle.std.proofs.Common.{◌∙◌, sym}
use Rattle.std.proofs.lemmas.Bool.{cond-true}
use Rattle.sheet.specs.Standing.{stage_of}
use Rattle.sheet.proofs.Answering.{unsound, sound_so, heard}
use Rattle.sheet.proofs.Sheet.still_open.Goals as goal

pub returns-in_err-heard : goal.returns-in_err-heard
returns-in_err-heard g c =
    let p = err_from_is_err_and c.from_residual.result c.from_residual.ensures.1 in
    rw (p.1, p.2) (unsound (stage_of c.args.self.now) tt _ _ c.in_err-heard.ensures)

pub returns-then-self : goal.returns-then-self
returns-then-self g c =
    let t = stage_of c.args.self.now in
    sym (cond-true t.settled _ _ c.if-self.true) ∙ heard t _ (sound_so t tt tt c.in_ok-heard.ensures)
