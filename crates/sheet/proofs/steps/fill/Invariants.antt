use Rattle.std.proofs.Common.{ℕ}
use Rattle.sheet.specs.Steps.{Blocks, Front}
use Rattle.sheet.proofs.steps.fill.Given as goal

abbrev pub invariant-loop-x : goal.invariant-loop-x
invariant-loop-x g l =
    (j : ℕ) → Blocks g.M.Out.Output.key (g.M.Machine.means l.machine) l.row j l.total
    → Front g.M.Out.Output.key (g.M.Machine.means l.machine) j l.x l.initial.next l.initial.outputs l.next l.outputs
