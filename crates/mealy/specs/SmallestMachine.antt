-- What the machine of the blocks is among the machines equivalent to one.
use Rattle.std.specs.Prelude.{ℕ}
use Rattle.mealy.specs.Mealy.{Mealy, Closed}
use Rattle.mealy.specs.Partitions.{Settled}
use Rattle.mealy.specs.Reduced.{reduced, Smallest}

-- The machine of the blocks of a settled partition is complete and equivalent, and none such is smaller.
abbrev pub BlocksMakeTheSmallest : Type 0
BlocksMakeTheSmallest = (m : Mealy) → Closed m → (j : ℕ) → Settled m j → Smallest m (reduced m j)
