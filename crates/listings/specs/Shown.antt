-- What is shown of the bytes of a chain, by some text f of a reduction's lists.
--   shown_text   the text f of a machine that the check accepts, or the refusal
--   Shown        the text, and whether the machine was accepted
use Rattle.std.specs.Prelude.{◌≡◌, ℕ, Bool, List, is_ok, Ok, Err, Result}
use Rattle.forms.specs.declared.openings.OpenRefusal.{OpenRefusal}
use Rattle.machine.specs.Checks.{Checked}
use Rattle.machine.specs.Meaning.{Meaning}
use Rattle.machine.specs.declared.checks.CheckRefusal.{CheckRefusal}
use Rattle.machine.specs.declared.faults.StoredFault.{StoredFault}
use Rattle.machine.specs.declared.outputs.Command.{Command}
use Rattle.reports.specs.Reports.{Refused, unsound_text}
use Rattle.listings.specs.Lists.{Lists, lists_of}

module _ (f : Lists → List ℕ) where
  abbrev pub shown_text : {U : Type 0} → Meaning Command StoredFault → Result U (CheckRefusal StoredFault) → List ℕ
  shown_text m (Ok u) = f (lists_of m)
  shown_text m (Err e) = unsound_text e

  -- what the check answers fits the machine in only one way, so the text is a function of it
  abbrev pub ShownMachine : Meaning Command StoredFault → List ℕ → Bool → Type 0
  ShownMachine m text accepted =
      (r : Result (Unit {0}) (CheckRefusal StoredFault)) × Checked m r × (text ≡ shown_text m r) × (accepted ≡ is_ok r)

  abbrev pub Shown : Result (Meaning Command StoredFault) OpenRefusal → List ℕ → Bool → Type 0
  Shown (Ok m) text accepted = ShownMachine m text accepted
  Shown (Err e) text accepted = Refused e text accepted
