-- The grid: a list of next states and a list of outputs, a place for each cell.
use Rattle.std.specs.Prelude.{ℕ, ◌+◌, ◌*◌, cond, not, List, length, Some, None, Ok, Err, Option, Result, ◌==◌, nat_le, slice_index}
use Rattle.machine.specs.Meaning.{Meaning}
use Rattle.machine.specs.declared.Cell.{Cell}
use Rattle.machine.specs.declared.faults.Cause.TheVariants as cause
use Rattle.machine.specs.declared.faults.StoredFault.{StoredFault}
use Rattle.std.specs.List.{slice_get}
use Rattle.std.specs.Result.{result_and}
use Rattle.forms.specs.declared.openings.OpenRefusal.{OpenRefusal}
use Rattle.forms.specs.declared.openings.OpenRefusal.TheVariants as refusal
use Rattle.forms.specs.Entries.{cell, fault, bounds_test}
use Rattle.forms.specs.Openings.{size_test}

module _ {O : Type 0} where
  -- the cell that the next state t and an output make at place p: 65,535 is a blank, and any other t must be a state;
  -- a grid's lists have every place, so an output is always there
  abbrev pub grid_cell : ℕ → ℕ → ℕ → ℕ → ℕ → Option O → Result (Cell O) StoredFault
  grid_cell n s i p t None = fault cause.Blank s i p
  grid_cell n s i p t (Some o) =
      cond (t == 65535) (fault cause.Blank s i p)
      (cond (nat_le n t) (fault cause.Next s i p)
      (cell t o))

  -- state s at input i has the place s * k + i in both lists
  abbrev pub grid_entry : ℕ → ℕ → List ℕ → List O → ℕ → ℕ → Result (Cell O) StoredFault
  grid_entry n k next outs s i =
      result_and (bounds_test n k s i) (grid_cell n s i (s * k + i) (slice_index next (s * k + i)) (slice_get outs (s * k + i)))

  abbrev pub grid_meaning : ℕ → ℕ → ℕ → List ℕ → List O → Meaning O StoredFault
  grid_meaning n k start next outs = record { states = n; inputs = k; start = start; entry = grid_entry n k next outs }

  -- what opening a grid answers, a grid by what it means
  abbrev pub grid_opening : ℕ → ℕ → ℕ → List ℕ → List O → Result (Meaning O StoredFault) OpenRefusal
  grid_opening n k start next outs =
      result_and (size_test n k start)
      (cond (not (length next == n * k)) (Err refusal.NextLength)
      (cond (not (length outs == n * k)) (Err refusal.OutputLength)
      (Ok (grid_meaning n k start next outs))))
