use Rattle.std.proofs.Common.{◌<◌, Ok, ap, ◌∙◌, ⊎_elim, arith}
use Rattle.machine.proofs.Theory.{few_states}
use Rattle.sheet.specs.Stage.{Stage}
use Rattle.sheet.specs.Standing.{stage_of}
use Rattle.sheet.proofs.Answering.{unsound, sound_so, heard, others, states}
use Rattle.sheet.proofs.Keeping.{parted_found}
use Rattle.std.proofs.lemmas.Result.{err_from_is_err_and}
use Rattle.sheet.proofs.Sheet.parted.Goals as goal

pub returns-in_err-heard : goal.returns-in_err-heard
returns-in_err-heard g c =
    let p = err_from_is_err_and c.from_residual.result c.from_residual.ensures.1 in
    rw (p.1, p.2) (unsound (stage_of c.args.self.now) tt _ _ c.in_err-heard.ensures)

pub returns-then-s-n : goal.returns-then-s-n
returns-then-s-n g c =
    let t : Stage = stage_of c.args.self.now in
    others t _ c.args.s c.args.t (λ both. ⊎_elim (λ x. omega (arith, c.states-n.ensures)) (λ x. omega (arith, c.states-n.ensures)) c.then-s-n.either)
    ∙ heard t _ (sound_so t tt tt c.in_ok-heard.ensures)

pub first_apart-requires : goal.first_apart-requires
first_apart-requires g c =
    let a = c.args.self.now in
    let fits = few_states (g.M.Machine.means a.machine) (g.met.M.Machine.sizes a.machine) in
    (omega (arith, c.states-n.ensures), omega (arith, c.states-n.ensures))

pub returns : goal.returns
returns g c =
    let a = c.args.self.now in
    let t : Stage = stage_of a in
    let ls : c.args.s < t.machine.states = omega (arith, c.states-n.ensures) in
    let lt : c.args.t < t.machine.states = omega (arith, c.states-n.ensures) in
    ap Ok (c.first_apart.ensures ∙ parted_found a (g.met.M.Machine.sizes a.machine) c.args.s c.args.t ls lt)
    ∙ states t _ c.args.s c.args.t ls lt ∙ heard t _ (sound_so t tt tt c.in_ok-heard.ensures)
