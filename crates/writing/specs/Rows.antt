-- A row as it is kept: its cells and their longest runs.
use Rattle.std.specs.Prelude.{ℕ, List, length, slice_index_or}
use Rattle.machine.specs.declared.Cell.{Cell}
use Rattle.machine.specs.declared.outputs.Command.{Command}
use Rattle.writing.specs.declared.rows.Row.{Row}
use Rattle.writing.specs.declared.rows.Run.{Run}
use Rattle.writing.specs.Runs.{no_cell, row_runs}

abbrev pub cells_in : Row → ℕ → Cell Command
cells_in row i = slice_index_or row.cells.items i no_cell

abbrev pub runs_in : Row → List Run
runs_in row = row_runs (cells_in row) (length row.cells.items)
