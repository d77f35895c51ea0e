use Rattle.std.proofs.Common.{◌≡◌, ◌-◌, ◌≤◌}
use Rattle.forms.specs.Bytes.{count}
use Rattle.forms.specs.Chains.{trail, walk, given}
use Rattle.forms.proofs.Chain.walked.Given as have

-- only records are read, and what is left of the walk gives what the whole walk gives
abbrev pub invariant-loop-record : have.invariant-loop-record
invariant-loop-record l =
    let bs = l.self.bytes.items in
    (l.last ≤ count bs)
    × (given bs l.state l.input l.last (trail (count bs - l.last) bs l.last l.link) ≡ given bs l.state l.input 0 (walk bs l.state))

abbrev pub decreases-loop-record : have.decreases-loop-record
decreases-loop-record l = count l.self.bytes.items - l.last
