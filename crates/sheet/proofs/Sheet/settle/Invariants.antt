use Rattle.std.proofs.Common.{◌≡◌, ◌-◌, ◌≤◌}
use Rattle.sheet.specs.Stage.{at_round}
use Rattle.sheet.specs.Standing.{stage_of}
use Rattle.sheet.proofs.Sheet.settle.Given as goal

abbrev pub invariant-rounds : goal.invariant-rounds
invariant-rounds g l =
    (l.self.machine ≡ l.initial.self.machine)
    × (stage_of l.self ≡ at_round l.self.rounds (stage_of l.initial.self))
    × (l.initial.self.rounds ≤ l.self.rounds)

abbrev pub decreases-rounds : goal.decreases-rounds
decreases-rounds g l = 128 - l.self.rounds
