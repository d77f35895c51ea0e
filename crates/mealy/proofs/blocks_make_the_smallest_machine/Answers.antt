use Rattle.mealy.proofs.Reduced.{blocks_make_the_smallest}
use Rattle.mealy.proofs.blocks_make_the_smallest_machine.Goals as goal

pub returns : goal.returns
returns c = blocks_make_the_smallest
