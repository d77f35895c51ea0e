use Rattle.layers.proofs.Carried.{beside_first, beside_second}
use Rattle.layers.proofs.Beside.new.Goals as goal

pub returns-clause-first_misfit : goal.returns-clause-first_misfit
returns-clause-first_misfit g c =
    beside_first (g.P.Machine.means c.args.first) (g.Q.Machine.means c.args.second) (g.met.P.Machine.inside c.args.first)

pub returns-clause-second_misfit : goal.returns-clause-second_misfit
returns-clause-second_misfit g c =
    beside_second (g.P.Machine.means c.args.first) (g.Q.Machine.means c.args.second) (g.met.Q.Machine.inside c.args.second)
