-- The machine of the blocks, and what a smallest equivalent machine is.
use Rattle.std.specs.Prelude.{ℕ, ◌≤◌, nat_eq}
use Rattle.mealy.specs.Mealy.{Mealy, Closed}
use Rattle.mealy.specs.Words.{EquivalentMachines}
use Rattle.mealy.specs.Below.{lowest}
use Rattle.mealy.specs.Partitions.{block, block_count}

-- The lowest state of the block numbered c.
abbrev pub leader_of : Mealy → ℕ → ℕ → ℕ
leader_of m j c = lowest m.states (λ s. nat_eq (block m j s) c)

-- The machine of the blocks of P j: a block's row is that of its lowest state, with the blocks of the next states.
abbrev pub reduced : Mealy → ℕ → Mealy
reduced m j = record {
  states = block_count m j;
  inputs = m.inputs;
  next = λ c i. block m j (m.next (leader_of m j c) i);
  key = λ c i. m.key (leader_of m j c) i;
}

-- r is complete and equivalent to m, and no complete machine equivalent to m has fewer states.
pub record Smallest (m r : Mealy) : Type 0 where
  pub closed : Closed r
  pub equivalent : EquivalentMachines m r
  pub least : (o : Mealy) → Closed o → EquivalentMachines m o → r.states ≤ o.states
