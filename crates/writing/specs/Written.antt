-- The written form: the chain of a machine, number by number.
--   records          the records of a state's runs
--   records_before   how many records the states before s have
--   heads, rows      the heads and the records of the states before s
--   chain_numbers    all numbers, and `written` their bytes
use Rattle.std.specs.Prelude.{ℕ, zero, suc, ◌+◌, ◌-◌, ◌*◌, List, [], ◌∷◌, ◌++◌, length}
use Rattle.machine.specs.Meaning.{Meaning}
use Rattle.machine.specs.declared.Cell.{Cell}
use Rattle.machine.specs.declared.outputs.Command.{Command}
use Rattle.writing.specs.declared.rows.Run.{Run}
use Rattle.writing.specs.Bytes.{bytes_of}
use Rattle.writing.specs.Runs.{row_of, row_runs}

-- a link to record r if another run follows, else 0
abbrev pub link_to : ℕ → List Run → ℕ
link_to r [] = 0
link_to r (x ∷ xs) = r

-- a record for each run, numbered from r on: from, to, next, output, link
abbrev pub records : (ℕ → Cell Command) → ℕ → List Run → List ℕ
records row r [] = []
records row r (x ∷ xs) =
    x.from ∷ x.to ∷ (row x.from).next ∷ (row x.from).output.number ∷ link_to (r + 1) xs ∷ records row (r + 1) xs

-- the place of record r's first number in a chain of n states
abbrev pub place_of : ℕ → ℕ → ℕ
place_of n r = 4 + n + 5 * (r - 1)

module _ {F : Type 0} (m : Meaning Command F) where
  -- the longest runs of state s
  abbrev pub state_runs : ℕ → List Run
  state_runs s = row_runs (row_of m s) m.inputs

  -- how many records the states before s have
  abbrev pub records_before : ℕ → ℕ
  records_before zero = 0
  records_before (suc s) = records_before s + length (state_runs s)

  -- the heads of the states before s: each is one more than the records before its state
  abbrev pub heads : ℕ → List ℕ
  heads zero = []
  heads (suc s) = heads s ++ ((records_before s + 1) ∷ [])

  -- the records of the states before s
  abbrev pub rows : ℕ → List ℕ
  rows zero = []
  rows (suc s) = rows s ++ records (row_of m s) (records_before s + 1) (state_runs s)

  -- of all states
  abbrev pub all_records : ℕ
  all_records = records_before m.states

  abbrev pub all_heads : List ℕ
  all_heads = heads m.states

  abbrev pub all_rows : List ℕ
  all_rows = rows m.states

  -- the whole chain: four numbers in front, the heads, the records
  abbrev pub chain_numbers : List ℕ
  chain_numbers = m.states ∷ m.inputs ∷ m.start ∷ all_records ∷ (all_heads ++ all_rows)

  abbrev pub written : List ℕ
  written = bytes_of chain_numbers

  -- the count of its bytes
  abbrev pub bytes_needed : ℕ
  bytes_needed = 2 * (4 + m.states + 5 * all_records)
