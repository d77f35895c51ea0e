use Rattle.std.proofs.Common.{◌≡◌, ◌<◌, IfSome, Ok, sym, ap, ◌∙◌, subst, arith}
use Rattle.std.proofs.lemmas.Result.{err_from_is_err_and}
use Rattle.mealy.specs.Partitions.{parted}
use Rattle.sheet.specs.Replies.{pair_reply, told}
use Rattle.sheet.specs.Stage.{Stage}
use Rattle.sheet.specs.Standing.{stage_of}
use Rattle.sheet.proofs.Answering.{no_states, states_so, through, few_taken, told_is}
use Rattle.sheet.proofs.Keeping.{known}
use Rattle.sheet.proofs.Meaning.{pair_means}
use Rattle.sheet.proofs.Sheet.pair.Goals as goal

pub returns-in_err-parted-clause-answer : goal.returns-in_err-parted-clause-answer
returns-in_err-parted-clause-answer g c =
    let p = err_from_is_err_and c.from_residual.result c.from_residual.ensures.1 in
    rw (p.1, p.2) (no_states (stage_of c.args.self.now) _ _ _ c.args.s c.args.t c.in_err-parted.ensures)

pub tell-requires : goal.tell-requires
tell-requires g c =
    let a = c.args.self.now in
    let t : Stage = stage_of a in
    let is = states_so t _ _ c.args.s c.args.t c.in_ok-parted.ensures in
    subst (λ x. IfSome x (λ j. j < 128)) (sym is.3) (few_taken a.rounds (parted t.machine a.rounds c.args.s c.args.t) 128 (omega (arith, a.early, a.few)))

pub returns : goal.returns
returns g c =
    let a = c.args.self.now in
    let t : Stage = stage_of a in
    let is = states_so t _ _ c.args.s c.args.t c.in_ok-parted.ensures in
    let answer : Ok c.tell.result ≡ pair_reply t c.args.s c.args.t =
    ap Ok (c.tell.ensures ∙ ap (λ x. told x a.settled) is.3 ∙ told_is t c.args.s c.args.t) ∙ through t c.args.s c.args.t _ _ c.in_ok-parted.ensures _ in
    record { answer = answer; means = pair_means t (known a (g.met.M.Machine.sizes a.machine) (g.met.M.Machine.closed a.machine)) c.args.s c.args.t _ answer }
