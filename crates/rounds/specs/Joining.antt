-- One round over any numbering of the states.
--   cells_join, joins_at, joins   two entries, or two states at an input or at all, go alike by the numbering
--   finer                         two states have one number, and join
--   some_below                    a number where it is below a limit
--   lead_of, lead_by, number_by   the blocks that a test of two states makes, numbered by their lowest states
use Rattle.std.specs.Prelude.{ℕ, Bool, false, cond, ◌&&◌, List, ℤ, Some, None, Option, Ok, Err, Result, ◌==◌, nat_lt, slice_index}
use Rattle.machine.specs.Meaning.{Meaning}
use Rattle.machine.specs.declared.Cell.{Cell}
use Rattle.mealy.specs.Below.{every, lowest, count}
use Rattle.mealy.specs.Keys.{same_key}

module _ {O F : Type 0} (key : O → List ℤ) where
  -- both are cells, with outputs of one key and next states of one number
  abbrev pub cells_join : List ℕ → Result (Cell O) F → Result (Cell O) F → Bool
  cells_join prev (Ok a) (Ok b) =
      same_key (key a.output) (key b.output) && slice_index prev a.next == slice_index prev b.next
  cells_join prev (Ok a) (Err f) = false
  cells_join prev (Err e) y = false

  -- two states join at one input,
  abbrev pub joins_at : Meaning O F → List ℕ → ℕ → ℕ → ℕ → Bool
  joins_at m prev s t i = cells_join prev (m.entry s i) (m.entry t i)

  -- at every input,
  abbrev pub joins : Meaning O F → List ℕ → ℕ → ℕ → Bool
  joins m prev s t = every m.inputs (joins_at m prev s t)

  -- and have one number besides
  abbrev pub finer : Meaning O F → List ℕ → ℕ → ℕ → Bool
  finer m prev s t = slice_index prev s == slice_index prev t && joins m prev s t

-- x where it is below n: of the lowest number that passes, that one does
abbrev pub some_below : ℕ → ℕ → Option ℕ
some_below n x = cond (nat_lt x n) (Some x) None

-- the lowest state that s joins, or s
abbrev pub lead_of : (ℕ → ℕ → Bool) → ℕ → ℕ
lead_of p s = lowest s (λ t. p t s)

-- s joins no lower state
abbrev pub lead_by : (ℕ → ℕ → Bool) → ℕ → Bool
lead_by p s = lead_of p s == s

-- how many lead below the one that leads s
abbrev pub number_by : (ℕ → ℕ → Bool) → ℕ → ℕ
number_by p s = count (lead_of p s) (lead_by p)
