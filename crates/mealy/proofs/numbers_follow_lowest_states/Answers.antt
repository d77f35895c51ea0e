use Rattle.mealy.proofs.Numbers.{leader_is_lowest, numbers_by_share, numbers_without_gaps, numbers_in_order}
use Rattle.mealy.proofs.numbers_follow_lowest_states.Goals as goal

pub returns : goal.returns
returns c = record {
  lowest = leader_is_lowest;
  equal = numbers_by_share;
  gapless = numbers_without_gaps;
  rising = numbers_in_order;
}
