use Rattle.std.proofs.Common.{subst}
use Rattle.machine.proofs.Theory.{sound_decides}
use Rattle.reductions.specs.Reductions.{IsReduction}
use Rattle.reductions.proofs.reduce.Goals as goal

-- what passes the check is sound
pub of-requires : goal.of-requires
of-requires g c =
    let m = g.M.Machine.means c.args.machine in
    record { sound = (sound_decides m (g.met.M.Machine.sizes c.args.machine)).1 c.in_ok-check.ensures.answer }

pub returns : goal.returns
returns g c =
    subst (λ (x : g.row.M.Denot). IsReduction g.M.Out.Output.key (g.M.Machine.means x) c.in_ok-hand_out.field-0) c.of.ensures.same c.in_ok-hand_out.ensures
