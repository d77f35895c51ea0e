-- Rows of 128 places that hold a partition, and what a round makes of one.
--   place_at, row_of   the row of P j: the number of each state's block, and 0 past the states
--   Numbered           a row holds the numbers of P j
--   Refines            from them a round makes the row and the block count of P (j + 1)
--   FirstInput         by them the first input that sets two states apart
use Rattle.std.specs.Prelude.{◌≡◌, ℕ, suc, ◌<◌, true, cond, List, map, ℤ, Option, nat_lt, slice_index}
use Rattle.machine.specs.Meaning.{Meaning}
use Rattle.machine.specs.Theory.{mealy_of, sound_by}
use Rattle.mealy.specs.FirstWord.{first_input}
use Rattle.mealy.specs.Mealy.{Mealy}
use Rattle.mealy.specs.Partitions.{block, block_count}
use Rattle.rounds.specs.Joining.{some_below}
use Rattle.std.specs.List.{range_with_len}

-- the number of a state's block, and 0 past the states
abbrev pub place_at : Mealy → ℕ → ℕ → ℕ
place_at m j s = cond (nat_lt s m.states) (block m j s) 0

-- the row of P j
abbrev pub row_of : Mealy → ℕ → List ℕ
row_of m j = map (place_at m j) (range_with_len 0 128)

-- a row has the numbers of P j at its states
abbrev pub Numbered : Mealy → ℕ → List ℕ → Type 0
Numbered m j row = (s : ℕ) → s < m.states → slice_index row s ≡ block m j s

module _ {O F : Type 0} (key : O → List ℤ) (m : Meaning O F) where
  -- from the numbers of P j of a sound machine come the row and the block count of P (j + 1)
  abbrev pub Refines : List ℕ → List ℕ → ℕ → Type 0
  Refines prev row parts =
      (j : ℕ) → sound_by m ≡ true → Numbered (mealy_of key m) j prev
      → (row ≡ row_of (mealy_of key m) (suc j)) × (parts ≡ block_count (mealy_of key m) (suc j))

  -- by the numbers of P j of a sound machine, found is the first input that sets its states s and t apart, or none does
  abbrev pub FirstInput : List ℕ → ℕ → ℕ → Option ℕ → Type 0
  FirstInput prev s t found =
      (j : ℕ) → sound_by m ≡ true → Numbered (mealy_of key m) j prev → s < m.states → t < m.states
      → found ≡ some_below m.inputs (first_input (mealy_of key m) j s t)
