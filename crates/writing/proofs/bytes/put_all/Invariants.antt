use Rattle.std.proofs.Common.{◌≡◌, take}
use Rattle.writing.specs.Bytes.{puts}
use Rattle.writing.proofs.bytes.put_all.Given as goal

abbrev pub invariant-loop-i : goal.invariant-loop-i
invariant-loop-i l = l.out ≡ puts l.initial.out l.place (take l.i l.numbers)
