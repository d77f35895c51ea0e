use Rattle.std.proofs.Common.{sym, ◌∙◌}
use Rattle.std.proofs.lemmas.Bool.{cond-false}
use Rattle.sheet.specs.Standing.{stage_of}
use Rattle.sheet.proofs.Answering.{heard}
use Rattle.sheet.proofs.Sheet.heard.Goals as goal

pub returns-then-not-self : goal.returns-then-not-self
returns-then-not-self g c =
    let a = c.args.self.now in
    sym (cond-false (stage_of a).sound _ _ (sym a.kept.sounds ∙ c.if-not-self.true))

pub returns : goal.returns
returns g c =
    let a = c.args.self.now in
    heard (stage_of a) _ (sym a.kept.sounds ∙ c.if-not-self.false)
