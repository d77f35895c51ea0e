-- A chain opened from what was written.
use Rattle.std.proofs.Common.{◌≡◌, ℕ, List, Ok, sym, subst}
use Rattle.forms.specs.Chains.{chain_opening}
use Rattle.machine.specs.Meaning.{Meaning}
use Rattle.machine.specs.declared.faults.StoredFault.{StoredFault}
use Rattle.machine.specs.declared.outputs.Command.{Command}
use Rattle.writing.specs.Writes.{SameMachine, Reopens}

module _ (m t : Meaning Command StoredFault) where
  -- opening answers once
  pub same_again : (bs : List ℕ) → Reopens m bs → chain_opening bs ≡ Ok t → SameMachine m t
  same_again bs again opened =
      let e : t ≡ again.0 = cc (opened, again.1) in
      subst (SameMachine m) (sym e) again.2
