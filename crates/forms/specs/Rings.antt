-- The ring: n states in a circle and no table.
use Rattle.std.specs.Prelude.{ℕ, ◌+◌, ◌-◌, cond, Ok, Result, ◌==◌}
use Rattle.machine.specs.Meaning.{Meaning}
use Rattle.machine.specs.declared.Cell.{Cell}
use Rattle.machine.specs.declared.faults.StoredFault.{StoredFault}
use Rattle.machine.specs.declared.outputs.Command.{Command}
use Rattle.std.specs.Result.{result_and}
use Rattle.forms.specs.declared.openings.OpenRefusal.{OpenRefusal}
use Rattle.forms.specs.Entries.{cell, command, bounds_test}
use Rattle.forms.specs.Openings.{size_test}

-- input 0 goes forward, and from the last state to the first with command 1; input 1 goes back, and from the first
-- to the last with command 2; input 2 stays; all else has command 0
abbrev pub ring_entry : ℕ → ℕ → ℕ → Result (Cell Command) StoredFault
ring_entry n s i =
    result_and (bounds_test n 3 s i)
    (cond (i == 0) (cond (s == n - 1) (cell 0 (command 1)) (cell (s + 1) (command 0)))
    (cond (i == 1) (cond (s == 0) (cell (n - 1) (command 2)) (cell (s - 1) (command 0)))
    (cell s (command 0))))

abbrev pub ring_meaning : ℕ → Meaning Command StoredFault
ring_meaning n = record { states = n; inputs = 3; start = 0; entry = ring_entry n }

-- what opening a ring of n states answers, a ring by what it means
abbrev pub ring_opening : ℕ → Result (Meaning Command StoredFault) OpenRefusal
ring_opening n = result_and (size_test n 3 0) (Ok (ring_meaning n))
