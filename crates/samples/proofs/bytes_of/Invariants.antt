use Rattle.std.proofs.Common.{◌≡◌, ◌++◌, take, vec_items}
use Rattle.std.specs.List.{flat_map}
use Rattle.samples.specs.Samples.{bytes_text}
use Rattle.samples.proofs.bytes_of.Given as goal

-- the records before this one are added
abbrev pub invariant-loop-record : goal.invariant-loop-record
invariant-loop-record l = vec_items l.bytes ≡ bytes_text l.front ++ flat_map bytes_text (take l.record-index l.records)
