use Rattle.mealy.proofs.Words.{share_by_words, exact_length_suffices}
use Rattle.mealy.proofs.blocks_are_told_by_words.Goals as goal

pub returns : goal.returns
returns c = record { shared = share_by_words; exact = exact_length_suffices }
