use Rattle.mealy.proofs.Settled.{settled_is_equivalence}
use Rattle.mealy.proofs.settled_blocks_are_equivalence.Goals as goal

pub returns : goal.returns
returns c = settled_is_equivalence
