use Rattle.writing.proofs.Fewest.{runs_fewest}
use Rattle.writing.proofs.writes.runs_are_fewest.Goals as goal

pub returns : goal.returns
returns c = runs_fewest
