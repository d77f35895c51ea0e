use Rattle.views.proofs.TellingModes.{card_tells_modes}
use Rattle.views.proofs.cards.cards_tell_modes.Goals as goal

pub returns : goal.returns
returns c = card_tells_modes
