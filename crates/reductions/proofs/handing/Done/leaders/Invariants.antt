use Rattle.std.proofs.Common.{◌≡◌, map, vec_items}
use Rattle.std.specs.List.{range_with_len}
use Rattle.mealy.specs.Reduced.{leader_of}
use Rattle.sheet.specs.Standing.{stage_of}
use Rattle.reductions.proofs.handing.Done.leaders.Given as goal

abbrev pub invariant-loop-class : goal.invariant-loop-class
invariant-loop-class g l =
    vec_items l.leaders ≡ map (leader_of (stage_of l.self.sheet).machine l.self.sheet.rounds) (range_with_len 0 l.class)
