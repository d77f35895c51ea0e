-- Causes and stored faults: their numbers, and their words.
use Rattle.std.specs.Prelude.{ℕ, cond, List, ◌++◌, Some, None, Ok, Err, codes, decimal, Option, Result, nat_le}
use Rattle.machine.specs.declared.faults.Cause.{Cause}
use Rattle.machine.specs.declared.faults.Cause.TheVariants as cause
use Rattle.machine.specs.declared.faults.StoredFault.{StoredFault}

-- the number under which a cause is known
abbrev pub cause_number : Cause → ℕ
cause_number cause.State = 1
cause_number cause.Input = 2
cause_number cause.Blank = 3
cause_number cause.Next = 4
cause_number cause.Link = 5
cause_number cause.Misfit = 6

-- the cause of a state s and an input i where there are n states and k inputs: the state comes first
abbrev pub range_cause : ℕ → ℕ → ℕ → ℕ → Option Cause
range_cause n k s i = cond (nat_le n s) (Some cause.State) (cond (nat_le k i) (Some cause.Input) None)

-- such a cause as a fault that is found there, or that all is well
abbrev pub range_fault : {F : Type 0} → (Cause → ℕ → ℕ → F) → ℕ → ℕ → Option Cause → Result (Unit {0}) F
range_fault own s i (Some c) = Err (own c s i)
range_fault own s i None = Ok tt

-- the state is one of n, and then the input one of k
abbrev pub range_test : {F : Type 0} → (Cause → ℕ → ℕ → F) → ℕ → ℕ → ℕ → ℕ → Result (Unit {0}) F
range_test own n k s i = range_fault own s i (range_cause n k s i)

-- a fault that a stored form finds before it asks its store, which has no place
abbrev pub stored_own : Cause → ℕ → ℕ → StoredFault
stored_own c s i = record { cause = c; state = s; input = i; place = 0 }

-- a cause in words
abbrev pub cause_text : Cause → List ℕ
cause_text cause.State = codes "no such state"
cause_text cause.Input = codes "no such input"
cause_text cause.Blank = codes "blank cell"
cause_text cause.Next = codes "next state out of range"
cause_text cause.Link = codes "broken link"
cause_text cause.Misfit = codes "misfit"

-- a stored fault in words
abbrev pub fault_text : StoredFault → List ℕ
fault_text f =
    codes "state " ++ (decimal f.state ++ (codes " input " ++ (decimal f.input
    ++ (codes ": " ++ (cause_text f.cause ++ (codes " at place " ++ decimal f.place))))))
