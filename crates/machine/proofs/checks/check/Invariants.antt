use Rattle.machine.specs.Checks.{FilledBefore}
use Rattle.machine.proofs.checks.check.Given as goal

abbrev pub invariant-loop-input : goal.invariant-loop-input
invariant-loop-input g l = FilledBefore (g.M.Machine.means l.machine) l.state l.input-counter

abbrev pub invariant-loop-state : goal.invariant-loop-state
invariant-loop-state g l = FilledBefore (g.M.Machine.means l.machine) l.state-counter 0
