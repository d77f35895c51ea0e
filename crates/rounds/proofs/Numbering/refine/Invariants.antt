use Rattle.rounds.proofs.Numbering.refine.Given as goal
use Rattle.rounds.proofs.Filling.{Filled}
use Rattle.rounds.specs.Joining.{finer}

abbrev pub invariant-loop-s : goal.invariant-loop-s
invariant-loop-s g l =
    Filled (finer g.M.Out.Output.key (g.M.Machine.means l.self.machine.now) l.self.row.now) l.s l.row l.leads l.begun
