use Rattle.layers.proofs.Carried.{train_lower, train_upper}
use Rattle.layers.proofs.Train.new.Goals as goal

pub returns-clause-lower_misfit : goal.returns-clause-lower_misfit
returns-clause-lower_misfit g c =
    train_lower (g.L.Machine.means c.args.lower) (g.U.Machine.means c.args.upper) (g.met.L.Machine.inside c.args.lower)

pub returns-clause-upper_misfit : goal.returns-clause-upper_misfit
returns-clause-upper_misfit g c =
    train_upper (g.L.Machine.means c.args.lower) (g.U.Machine.means c.args.upper) (g.met.U.Machine.inside c.args.upper)
