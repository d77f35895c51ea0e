-- A machine of six states and two inputs, worked by hand.
--   cells, T6       the machine
--   T6AsWorked      its maps round by round, its count of blocks, and words of its states
--   T6NeverParted   states that no word tells apart
use Rattle.std.specs.Prelude.{◌≡◌, ℕ, ◌+◌, ◌*◌, List, [], ◌∷◌, pos, slice_index_or}
use Rattle.mealy.specs.Mealy.{Mealy}
use Rattle.mealy.specs.Words.{Equivalent}
use Rattle.mealy.specs.Partitions.{blocks, block_count, parted}
use Rattle.mealy.specs.FirstWord.{word_of}

-- The cells from state 0 on, for inputs 0 and 1: next state and output.
abbrev cells : List (ℕ × ℕ)
cells =
    (4, 0) ∷ (5, 0)
    ∷ (3, 0) ∷ (2, 0)
    ∷ (0, 1) ∷ (1, 0)
    ∷ (1, 0) ∷ (5, 0)
    ∷ (0, 0) ∷ (2, 0)
    ∷ (2, 1) ∷ (0, 0)
    ∷ []

-- The machine of these cells.
abbrev pub T6 : Mealy
T6 = record {
  states = 6;
  inputs = 2;
  next = λ s i. (slice_index_or cells (s * 2 + i) (0, 0)).0;
  key = λ s i. pos (slice_index_or cells (s * 2 + i) (0, 0)).1 ∷ [];
}

-- The maps after rounds 0 to 4, the count of blocks, two words, and two pairs that have not parted by round 4.
abbrev pub T6AsWorked : Type 0
T6AsWorked =
    (blocks T6 0 ≡ 0 ∷ 0 ∷ 0 ∷ 0 ∷ 0 ∷ 0 ∷ [])
    × (blocks T6 1 ≡ 0 ∷ 0 ∷ 1 ∷ 0 ∷ 0 ∷ 1 ∷ [])
    × (blocks T6 2 ≡ 0 ∷ 0 ∷ 1 ∷ 0 ∷ 0 ∷ 2 ∷ [])
    × (blocks T6 3 ≡ 0 ∷ 1 ∷ 2 ∷ 0 ∷ 1 ∷ 3 ∷ [])
    × (blocks T6 4 ≡ 0 ∷ 1 ∷ 2 ∷ 0 ∷ 1 ∷ 3 ∷ [])
    × (block_count T6 3 ≡ 4)
    × (word_of T6 4 0 1 ≡ 1 ∷ 0 ∷ 0 ∷ [])
    × (word_of T6 4 2 5 ≡ 0 ∷ 0 ∷ [])
    × (parted T6 4 0 3 ≡ 5)
    × (parted T6 4 4 4 ≡ 5)

-- No word of any length tells 0 from 3, or 4 from itself.
abbrev pub T6NeverParted : Type 0
T6NeverParted = Equivalent T6 T6 0 3 × Equivalent T6 T6 4 4
