use Rattle.std.proofs.Common.{◌≡◌, true}
use Rattle.mealy.specs.Below.{every}
use Rattle.rounds.specs.Joining.{joins_at}
use Rattle.rounds.proofs.Numbering.joins_everywhere.Given as goal

abbrev pub invariant-loop-i : goal.invariant-loop-i
invariant-loop-i g l = every l.i (joins_at g.M.Out.Output.key (g.M.Machine.means l.self.machine.now) l.self.row.now l.s l.t) ≡ true
