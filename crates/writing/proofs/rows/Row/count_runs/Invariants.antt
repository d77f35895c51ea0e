use Rattle.std.proofs.Common.{◌≡◌, ◌+◌, ◌-◌, length}
use Rattle.writing.specs.Runs.{runs}
use Rattle.writing.specs.Rows.{cells_in, runs_in}
use Rattle.writing.proofs.rows.Row.count_runs.Given as goal

-- what is counted and what is to come
abbrev pub invariant-loop-input : goal.invariant-loop-input
invariant-loop-input l =
    l.count + length (runs (cells_in l.self) (length l.self.cells.items) 0 l.input (length l.self.cells.items - l.input))
    ≡ length (runs_in l.self)
