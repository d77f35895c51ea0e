use Rattle.mealy.proofs.Parting.{short_words_suffice}
use Rattle.mealy.proofs.short_words_suffice.Goals as goal

pub returns : goal.returns
returns c = short_words_suffice
