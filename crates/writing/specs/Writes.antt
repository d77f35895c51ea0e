-- What chain writing answers, what it leaves, and what is read again.
--   write_number           the number of a refusal
--   Answered, after        the answer, and the buffer after it
--   SameMachine, Reopens   the round trip
use Rattle.std.specs.Prelude.{◌≡◌, ℕ, ◌<◌, ◌≤◌, List, ◌++◌, drop, Ok, Err, Result}
use Rattle.machine.specs.Checks.{Checked, check_number}
use Rattle.machine.specs.Meaning.{Meaning, Sound}
use Rattle.machine.specs.declared.Cell.{Cell}
use Rattle.machine.specs.declared.faults.StoredFault.{StoredFault}
use Rattle.machine.specs.declared.outputs.Command.{Command}
use Rattle.forms.specs.Chains.{chain_opening}
use Rattle.writing.specs.declared.writes.WriteRefusal.{WriteRefusal}
use Rattle.writing.specs.declared.writes.WriteRefusal.TheVariants as refusal
use Rattle.writing.specs.Written.{bytes_needed}

-- the number of a refusal: a check's own, or 8
abbrev pub write_number : {F : Type 0} → WriteRefusal F → ℕ
write_number (refusal.Unsound e) = check_number e
write_number (refusal.Short b) = 8

-- the buffer after writing: the chain and then the old bytes; at a refusal the old bytes
abbrev pub after : {F : Type 0} → Result ℕ (WriteRefusal F) → List ℕ → List ℕ → List ℕ
after (Ok b) chain old = chain ++ drop b old
after (Err e) chain old = old

-- two machines have the same sizes, the same start, and a cell at the same places, the same one
pub record SameMachine {F G : Type 0} (m : Meaning Command F) (t : Meaning Command G) : Type 0 where
  pub states : t.states ≡ m.states
  pub inputs : t.inputs ≡ m.inputs
  pub start : t.start ≡ m.start
  pub cells : (s i : ℕ) (c : Cell Command) → m.entry s i ≡ Ok c → t.entry s i ≡ Ok c
  pub no_others : (s i : ℕ) (c : Cell Command) → t.entry s i ≡ Ok c → m.entry s i ≡ Ok c

module _ {F : Type 0} (m : Meaning Command F) where
  -- the answer, with room for so many bytes: each is the only one that fits
  abbrev pub Answered : ℕ → Result ℕ (WriteRefusal F) → Type 0
  Answered room (Ok b) = Sound m × (b ≡ bytes_needed m) × (b ≤ room)
  Answered room (Err (refusal.Unsound e)) = Checked {U = ℕ} m (Err e)
  Answered room (Err (refusal.Short b)) = Sound m × (b ≡ bytes_needed m) × (room < b)

  -- the bytes open as a chain, and that is the same machine
  abbrev pub Reopens : List ℕ → Type 0
  Reopens bs = (t : Meaning Command StoredFault) × (chain_opening bs ≡ Ok t) × SameMachine m t
