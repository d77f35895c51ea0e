-- The tables that are measured, row by row.
--   up_to                   the lists of 0, 1, .. below n, one after the other
--   next_row, command_row   a state's row
--   measured                the machine of all rows
use Rattle.std.specs.Prelude.{ℕ, zero, suc, ◌-◌, cond, List, [], ◌∷◌, ◌++◌, ◌==◌}
use Rattle.forms.specs.Entries.{command}
use Rattle.forms.specs.Grids.{grid_meaning}
use Rattle.machine.specs.Meaning.{Meaning}
use Rattle.machine.specs.declared.faults.StoredFault.{StoredFault}
use Rattle.machine.specs.declared.outputs.Command.{Command}
use Rattle.bench.specs.declared.machines.Case.{Case}
use Rattle.bench.specs.declared.machines.Case.TheVariants as case

-- the lists of 0, 1, .. below n, one after the other
abbrev pub up_to : {A : Type 0} → (ℕ → List A) → ℕ → List A
up_to f zero = []
up_to f (suc n) = up_to f n ++ f n

-- the command of state s at the last input
abbrev pub last_command : Case → ℕ → ℕ
last_command case.Alike s = 0
last_command case.Apart s = s
last_command case.Stairs s = cond (s == 0) 1 0

-- at the last of k inputs a state goes one down, and at any other it stays
abbrev pub next_row : ℕ → ℕ → List ℕ
next_row k s = up_to (λ _. s ∷ []) (k - 1) ++ (s - 1) ∷ []

-- any input but the last puts out its own number
abbrev pub command_row : Case → ℕ → ℕ → List Command
command_row c k s = up_to (λ i. command i ∷ []) (k - 1) ++ command (last_command c s) ∷ []

abbrev pub measured : Case → ℕ → ℕ → Meaning Command StoredFault
measured c n k = grid_meaning n k 0 (up_to (next_row k) n) (up_to (command_row c k) n)
