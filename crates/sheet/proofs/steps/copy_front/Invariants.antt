use Rattle.std.proofs.Common.{◌≡◌, take}
use Rattle.sheet.proofs.steps.copy_front.Given as goal

abbrev pub invariant-loop-s : goal.invariant-loop-s
invariant-loop-s l = take l.s l.place-items ≡ take l.s l.row
