-- How the blocks of a partition are numbered.
--     LeaderIsLowest         a state's leader is the lowest state of its block
--     NumbersByShare         two states have one number exactly where they share a block
--     NumbersWithoutGaps     the numbers of the blocks are those below the count of blocks
--     NumbersInOrder         of two blocks the one with the lower lowest state has the lower number
use Rattle.std.specs.Prelude.{◌≡◌, ℕ, ◌<◌, ◌≤◌, true, ◌↔◌}
use Rattle.mealy.specs.Mealy.{Mealy}
use Rattle.mealy.specs.Partitions.{share, leader, block, block_count}

-- A state's leader shares its block, and no lower state does.
abbrev pub LeaderIsLowest : Type 0
LeaderIsLowest =
    (m : Mealy) (j s : ℕ)
    → (share m j (leader m j s) s ≡ true) × ((t : ℕ) → share m j t s ≡ true → leader m j s ≤ t)

-- Block numbers are equal exactly where the block is shared.
abbrev pub NumbersByShare : Type 0
NumbersByShare = (m : Mealy) (j s t : ℕ) → (block m j s ≡ block m j t) ↔ (share m j s t ≡ true)

-- Every number below the count of blocks is some state's, and no other number is.
abbrev pub NumbersWithoutGaps : Type 0
NumbersWithoutGaps =
    (m : Mealy) (j c : ℕ) → (c < block_count m j) ↔ ((s : ℕ) × ((s < m.states) × (block m j s ≡ c)))

-- Of two blocks the one with the lower lowest state has the lower number.
abbrev pub NumbersInOrder : Type 0
NumbersInOrder = (m : Mealy) (j s t : ℕ) → (leader m j s < leader m j t) ↔ (block m j s < block m j t)
