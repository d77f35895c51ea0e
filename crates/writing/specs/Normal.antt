-- What normalising a chain answers.
use Rattle.std.specs.Prelude.{◌≡◌, ℕ, List, Ok, Err, Result}
use Rattle.machine.specs.Checks.{Checked}
use Rattle.machine.specs.Meaning.{Meaning, Sound}
use Rattle.machine.specs.declared.faults.StoredFault.{StoredFault}
use Rattle.machine.specs.declared.outputs.Command.{Command}
use Rattle.forms.specs.Chains.{chain_opening}
use Rattle.forms.specs.declared.openings.OpenRefusal.{OpenRefusal}
use Rattle.writing.specs.declared.normal.NormalRefusal.{NormalRefusal}
use Rattle.writing.specs.declared.normal.NormalRefusal.TheVariants as refusal
use Rattle.writing.specs.Writes.{SameMachine, Reopens}
use Rattle.writing.specs.Written.{written}

-- the answer for a chain that opened; memory is asked for only if it is sound
abbrev pub Rewritten : {V : Type 0} → (V → List ℕ) → Meaning Command StoredFault → Result V NormalRefusal → Type 0
Rewritten items m (Ok v) = Sound m × (items v ≡ written m)
Rewritten items m (Err (refusal.Unopened e)) = ⊥
Rewritten items m (Err (refusal.Unsound e)) = Checked {U = ℕ} m (Err e)
Rewritten items m (Err refusal.NoMemory) = Sound m

-- the answer for bytes, by what opening them answers
abbrev pub Normalised : {V : Type 0} → (V → List ℕ) → Result (Meaning Command StoredFault) OpenRefusal
    → Result V NormalRefusal → Type 0
Normalised items (Ok m) r = Rewritten items m r
Normalised items (Err e) r = r ≡ Err (refusal.Unopened e)

-- old and new bytes open as chains, and these are the same machine
abbrev pub SameChain : List ℕ → List ℕ → Type 0
SameChain olds news = (m : Meaning Command StoredFault) × (chain_opening olds ≡ Ok m) × Reopens m news

-- the same machine is written as the same bytes
abbrev pub OneForm : Type 0
OneForm = (m t : Meaning Command StoredFault) → SameMachine m t → written t ≡ written m
