use Rattle.mealy.proofs.Rounds.{settles_in_time}
use Rattle.mealy.proofs.Settled.{settles_by_its_size, settled_stays}
use Rattle.mealy.proofs.settles_by_the_round_of_its_size.Goals as goal

pub returns : goal.returns
returns c = record { splits = settles_in_time; settles = settles_by_its_size; stays = settled_stays }
