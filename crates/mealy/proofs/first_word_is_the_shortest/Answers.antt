use Rattle.mealy.proofs.Parting.{parted_is_told_within, parted_is_shortest_length, first_word_is_shortest}
use Rattle.mealy.proofs.first_word_is_the_shortest.Goals as goal

pub returns : goal.returns
returns c = record {
  parted = parted_is_told_within;
  length = parted_is_shortest_length;
  word = first_word_is_shortest;
}
