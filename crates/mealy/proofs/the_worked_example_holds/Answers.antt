use Rattle.mealy.proofs.Worked.{as_worked, never_parted}
use Rattle.mealy.proofs.the_worked_example_holds.Goals as goal

pub returns : goal.returns
returns c = record { computed = as_worked; equivalent = never_parted }
