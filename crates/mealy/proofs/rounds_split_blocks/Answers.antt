use Rattle.mealy.proofs.Share.{share_down}
use Rattle.mealy.proofs.Rounds.{one_block_first, splits_grow, blocks_bounded}
use Rattle.mealy.proofs.Settled.{settled_by_count}
use Rattle.mealy.proofs.rounds_split_blocks.Goals as goal

pub returns : goal.returns
returns c = record {
  first = one_block_first;
  refines = share_down;
  grows = splits_grow;
  counted = settled_by_count;
  bounded = blocks_bounded;
}
