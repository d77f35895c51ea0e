use Rattle.std.proofs.Common.{◌≡◌, ◌+◌, ◌-◌, ◌++◌, map, length, vec_items}
use Rattle.std.specs.List.{range_with_len}
use Rattle.sheet.specs.Standing.{stage_of}
use Rattle.texts.specs.Each.{each}
use Rattle.reductions.specs.Aparts.{apart_of, aparts_above, aparts_of}
use Rattle.reductions.proofs.handing.Led.aparts.Given as goal

-- what is left to add makes the whole
abbrev pub invariant-loop-class : goal.invariant-loop-class
invariant-loop-class g l =
    let m = (stage_of l.self.done.now.sheet).machine in
    let r = l.self.done.now.sheet.rounds in
    let leaders = l.self.leaders.now in
    map apart_of (vec_items l.aparts) ++ each (aparts_above m r leaders) (range_with_len (0 + l.class) (length leaders - l.class))
    ≡ aparts_of m r leaders
