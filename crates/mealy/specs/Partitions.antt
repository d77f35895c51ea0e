-- The partitions P 0, P 1, .. of a machine's states, computed, with blocks numbered by their lowest state, rising.
--   alike_at m same s t i   at input i the outputs of s and t are alike and their next states are the same
--   share m j s t           s and t share a block of P j
--   leader m j s            the lowest state of the block of s
--   leads m j s             s is the lowest state of its block
--   block m j s             the number of the block of s
--   blocks m j              P j, as the list of each state's block number
--   block_count m j         how many blocks P j has
--   Settled m j             P (j + 1) is P j
--   parted m j s t          the least i up to j at which P i puts s and t in different blocks
use Rattle.std.specs.Prelude.{◌≡◌, ℕ, zero, suc, Bool, true, not, ◌&&◌, List, map, ◌==◌}
use Rattle.std.specs.List.{range_with_len}
use Rattle.mealy.specs.Mealy.{Mealy}
use Rattle.mealy.specs.Keys.{same_key}
use Rattle.mealy.specs.Below.{every, lowest, count}

-- At input i the outputs of s and t are alike, and their next states are the same in the sense given.
abbrev pub alike_at : Mealy → (ℕ → ℕ → Bool) → ℕ → ℕ → ℕ → Bool
alike_at m same s t i = same_key (m.key s i) (m.key t i) && same (m.next s i) (m.next t i)

-- P 0 is one block. In P (j + 1) two states share a block where at every input they are alike, by the blocks of P j.
abbrev pub share : Mealy → ℕ → ℕ → ℕ → Bool
share m zero s t = true
share m (suc j) s t = every m.inputs (alike_at m (share m j) s t)

-- The lowest state of the block of s: one below s, or s.
abbrev pub leader : Mealy → ℕ → ℕ → ℕ
leader m j s = lowest s (λ t. share m j t s)

-- Whether s is the lowest state of its block.
abbrev pub leads : Mealy → ℕ → ℕ → Bool
leads m j s = leader m j s == s

-- The number of the block of s: how many blocks have a lower lowest state.
abbrev pub block : Mealy → ℕ → ℕ → ℕ
block m j s = count (leader m j s) (leads m j)

-- P j: the number of the block of each state, from state 0 on.
abbrev pub blocks : Mealy → ℕ → List ℕ
blocks m j = map (block m j) (range_with_len 0 m.states)

-- How many blocks P j has: one for each lowest state.
abbrev pub block_count : Mealy → ℕ → ℕ
block_count m j = count m.states (leads m j)

-- One more round changes nothing.
abbrev pub Settled : Mealy → ℕ → Type 0
Settled m j = blocks m (suc j) ≡ blocks m j

-- The least i up to j at which s and t lie in different blocks of P i, or j + 1 where they share one in P j.
abbrev pub parted : Mealy → ℕ → ℕ → ℕ → ℕ
parted m j s t = lowest (suc j) (λ i. not (share m i s t))
