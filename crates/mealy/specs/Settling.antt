-- How the partitions go on, round by round, until they settle on equivalence.
--   RoundsRefine           a block of P (j + 1) lies in a block of P j
--   SplitsGrow             a partition that differs from the one before has more blocks
--   SettledByCount         one that has as many blocks as the one before is the same
--   OneBlockFirst          P 0 has one block
--   BlocksBounded          no partition has more blocks than there are states
--   SettlesInTime          fewer rounds in a row split than there are states
--   SettlesByItsSize       P n is P (n - 1) in a machine of n states
--   SettledStays           once a round changes nothing, none does
--   SettledIsEquivalence   sharing a block of a settled partition is equivalence
--   ShortWordsSuffice      what any word tells apart, one of at most n - 1 inputs does
use Rattle.std.specs.Prelude.{◌≡◌, ℕ, suc, ◌-◌, ◌<◌, ◌≤◌, true, ◌↔◌, List}
use Rattle.mealy.specs.Mealy.{Mealy, Closed}
use Rattle.mealy.specs.Words.{Tells, ToldWithin, Equivalent}
use Rattle.mealy.specs.Partitions.{share, blocks, block_count, Settled}

-- P (j + 1) refines P j.
abbrev pub RoundsRefine : Type 0
RoundsRefine = (m : Mealy) (j s t : ℕ) → share m (suc j) s t ≡ true → share m j s t ≡ true

-- A round that changes the partition makes more blocks.
abbrev pub SplitsGrow : Type 0
SplitsGrow = (m : Mealy) (j : ℕ) → (Settled m j → ⊥) → block_count m j < block_count m (suc j)

-- A round changes nothing exactly where it makes no more blocks.
abbrev pub SettledByCount : Type 0
SettledByCount = (m : Mealy) (j : ℕ) → Settled m j ↔ (block_count m (suc j) ≡ block_count m j)

-- P 0 has one block.
abbrev pub OneBlockFirst : Type 0
OneBlockFirst = (m : Mealy) → 1 ≤ m.states → block_count m 0 ≡ 1

-- No partition has more blocks than there are states.
abbrev pub BlocksBounded : Type 0
BlocksBounded = (m : Mealy) (j : ℕ) → block_count m j ≤ m.states

-- Where each of the first j rounds changes the partition, j is below the count of states.
abbrev pub SettlesInTime : Type 0
SettlesInTime =
    (m : Mealy) → 1 ≤ m.states → (j : ℕ) → ((i : ℕ) → i < j → Settled m i → ⊥) → j < m.states

-- A complete machine of n states has settled by round n: P n is P (n - 1).
abbrev pub SettlesByItsSize : Type 0
SettlesByItsSize = (m : Mealy) → Closed m → 1 ≤ m.states → Settled m (m.states - 1)

-- Once a round changes nothing, no later one does.
abbrev pub SettledStays : Type 0
SettledStays = (m : Mealy) → Closed m → (j : ℕ) → Settled m j → (i : ℕ) → j ≤ i → blocks m i ≡ blocks m j

-- Sharing a block of a settled partition is being told apart by no word of any length.
abbrev pub SettledIsEquivalence : Type 0
SettledIsEquivalence =
    (m : Mealy) → Closed m → (j : ℕ) → Settled m j
    → (s t : ℕ) → s < m.states → t < m.states → (share m j s t ≡ true) ↔ Equivalent m m s t

-- Two of n states that any word tells apart are told apart by one of at most n - 1 inputs.
abbrev pub ShortWordsSuffice : Type 0
ShortWordsSuffice =
    (m : Mealy) → Closed m → (s t : ℕ) → s < m.states → t < m.states
    → (w : List ℕ) → Tells m m s t w → ToldWithin m (m.states - 1) s t
