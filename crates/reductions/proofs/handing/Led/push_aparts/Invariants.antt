use Rattle.std.proofs.Common.{◌≡◌, ◌+◌, ◌-◌, ◌++◌, map, length, vec_items}
use Rattle.std.specs.List.{range_with_len}
use Rattle.sheet.specs.Standing.{stage_of}
use Rattle.reductions.specs.Aparts.{apart_of, apart_at, aparts_above}
use Rattle.reductions.proofs.handing.Led.push_aparts.Given as goal

-- what is left to add makes the whole
abbrev pub invariant-loop-above : goal.invariant-loop-above
invariant-loop-above g l =
    let m = (stage_of l.self.done.now.sheet).machine in
    let r = l.self.done.now.sheet.rounds in
    let leaders = l.self.leaders.now in
    let other = l.class + 1 + l.above in
    map apart_of (vec_items l.aparts) ++ map (apart_at m r leaders l.class) (range_with_len other (length leaders - other))
    ≡ map apart_of (vec_items l.initial.aparts) ++ aparts_above m r leaders l.class
