use Rattle.std.proofs.Common.{◌≡◌, ◌+◌}
use Rattle.writing.specs.Bytes.{puts}
use Rattle.writing.specs.Written.{rows}
use Rattle.writing.proofs.plans.Plan.put_rows.Given as goal

abbrev pub invariant-loop-state : goal.invariant-loop-state
invariant-loop-state g l = l.out ≡ puts l.initial.out (4 + l.states) (rows (g.M.Machine.means l.self.machine.now) l.state)
