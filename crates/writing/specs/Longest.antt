-- When the records of a chain are longest runs.
use Rattle.std.specs.Prelude.{◌≡◌, ℕ, ◌+◌, ◌<◌, ◌≤◌, List}
use Rattle.forms.specs.Bytes.{states, inputs}
use Rattle.forms.specs.Chains.{Trail, Read, Ended, Broken, record_at, walk}

-- the records p and r have equal cells
abbrev pub SameCell : List ℕ → ℕ → ℕ → Type 0
SameCell bs p r = ((record_at bs p).next ≡ (record_at bs r).next) × ((record_at bs p).output ≡ (record_at bs r).output)

-- the record that is read next, if there is one, has another cell than record p
abbrev pub Apart : List ℕ → ℕ → Trail → Type 0
Apart bs p (Read r rest) = SameCell bs p r → ⊥
Apart bs p Ended = Unit {0}
Apart bs p Broken = Unit {0}

-- a walk reads one record for each longest run of the inputs from i to k - 1, in their order
abbrev pub LongestFrom : List ℕ → ℕ → ℕ → Trail → Type 0
LongestFrom bs k i (Read r rest) =
    ((record_at bs r).from ≡ i) × (i ≤ (record_at bs r).to) × ((record_at bs r).to < k)
    × Apart bs r rest × LongestFrom bs k ((record_at bs r).to + 1) rest
LongestFrom bs k i Ended = i ≡ k
LongestFrom bs k i Broken = ⊥

-- the walk of every state does
abbrev pub LongestRuns : List ℕ → Type 0
LongestRuns bs = (s : ℕ) → s < states bs → LongestFrom bs (inputs bs) 0 (walk bs s)
