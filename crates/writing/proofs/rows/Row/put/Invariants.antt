use Rattle.std.proofs.Common.{◌-◌, length}
use Rattle.writing.specs.Rows.{cells_in}
use Rattle.writing.proofs.RunSteps.{Standing}
use Rattle.writing.proofs.rows.Row.put.Given as goal

abbrev pub invariant-loop-to : goal.invariant-loop-to
invariant-loop-to l =
    Standing (cells_in l.self) (length l.self.cells.items) l.states l.first l.initial.out l.out l.from l.to
    (length l.self.cells.items - l.to) l.number
