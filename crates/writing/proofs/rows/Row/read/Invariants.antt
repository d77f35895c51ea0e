use Rattle.std.proofs.Common.{◌≡◌, ℕ, ◌<◌, length, slice_index_or}
use Rattle.writing.specs.Runs.{no_cell, row_of}
use Rattle.writing.proofs.rows.Row.read.Given as goal

abbrev pub invariant-loop-input : goal.invariant-loop-input
invariant-loop-input g l = record {
  long : length l.self.cells.items ≡ l.input;
  each : (i : ℕ) → i < l.input → slice_index_or l.self.cells.items i no_cell ≡ row_of (g.M.Machine.means l.machine) l.state i;
}
