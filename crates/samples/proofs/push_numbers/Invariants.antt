use Rattle.std.proofs.Common.{◌≡◌, ◌++◌, take, vec_items}
use Rattle.samples.specs.Samples.{bytes_text}
use Rattle.samples.proofs.push_numbers.Given as goal

-- the numbers before this one are added
abbrev pub invariant-loop-number : goal.invariant-loop-number
invariant-loop-number l = vec_items l.bytes ≡ vec_items l.initial.bytes ++ bytes_text (take l.number-index l.numbers)
