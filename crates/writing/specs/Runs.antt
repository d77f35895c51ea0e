-- Runs: inputs of a state that follow one another and have equal cells.
--   row_of              a state's cells
--   equal_cells         whether two cells are equal
--   ends_run            where a longest run ends
--   row_runs            the longest runs of a row
--   Covering, Fewest    that no other runs with equal cells are fewer
use Rattle.std.specs.Prelude.{◌≡◌, ℕ, zero, suc, ◌+◌, ◌<◌, ◌≤◌, Bool, cond, not, ◌&&◌, ◌||◌, List, [], ◌∷◌, length, Ok, Err, Result, ◌==◌}
use Rattle.machine.specs.Meaning.{Meaning}
use Rattle.machine.specs.declared.Cell.{Cell}
use Rattle.machine.specs.declared.outputs.Command.{Command}
use Rattle.writing.specs.declared.rows.Run.{Run}

-- what stands where there is no cell
abbrev pub no_cell : Cell Command
no_cell = record { next = 0; output = record { number = 0 } }

-- the cell of an answer
abbrev pub filled : {F : Type 0} → Result (Cell Command) F → Cell Command
filled (Ok c) = c
filled (Err e) = no_cell

-- the cells of state s
abbrev pub row_of : {F : Type 0} → Meaning Command F → ℕ → ℕ → Cell Command
row_of m s i = filled (m.entry s i)

abbrev pub equal_cells : Cell Command → Cell Command → Bool
equal_cells a b = a.next == b.next && a.output.number == b.output.number

-- a longest run of k inputs ends at the last input, and where the next cell is another one
abbrev pub ends_run : (ℕ → Cell Command) → ℕ → ℕ → Bool
ends_run row k i = i + 1 == k || not (equal_cells (row i) (row (i + 1)))

abbrev pub run : ℕ → ℕ → Run
run from to = record { from = from; to = to }

-- the longest runs of k inputs, from the run on that begins at `from` and has come to i; `more` inputs from i on follow
abbrev pub runs : (ℕ → Cell Command) → ℕ → ℕ → ℕ → ℕ → List Run
runs row k from i zero = []
runs row k from i (suc more) =
    cond (ends_run row k i) (run from i ∷ runs row k (i + 1) (i + 1) more) (runs row k from (i + 1) more)

abbrev pub row_runs : (ℕ → Cell Command) → ℕ → List Run
row_runs row k = runs row k 0 0 k

-- runs, longest or not, that have equal cells and follow one another over the inputs from a to k - 1
abbrev pub Covering : (ℕ → Cell Command) → ℕ → ℕ → List Run → Type 0
Covering row k a [] = a ≡ k
Covering row k a (x ∷ xs) =
    (x.from ≡ a) × (a ≤ x.to) × (x.to < k) × ((i : ℕ) → a ≤ i → i ≤ x.to → row i ≡ row a) × Covering row k (x.to + 1) xs

-- the longest runs are such runs, and no others are fewer
abbrev pub Fewest : Type 0
Fewest =
    (row : ℕ → Cell Command) (k : ℕ) → 1 ≤ k
    → Covering row k 0 (row_runs row k) × ((xs : List Run) → Covering row k 0 xs → length (row_runs row k) ≤ length xs)
