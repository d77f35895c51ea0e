-- The worked example: what it says of words, by the theorems.
use Rattle.std.proofs.Common.{ℕ, Bool, ltb, refl, lit<}
use Rattle.std.proofs.lemmas.Bool.{ltb-true}
use Rattle.mealy.specs.Mealy.{Closed}
use Rattle.mealy.specs.Below.{every}
use Rattle.mealy.specs.WorkedExample.{T6, T6AsWorked, T6NeverParted}
use Rattle.mealy.proofs.Below.{every_at}
use Rattle.mealy.proofs.Settled.{settled_alike}

-- All of it computes.
pub as_worked : T6AsWorked
as_worked = (refl, refl, refl, refl, refl, refl, refl, refl, refl, refl)

-- Each cell leads to one of the six states.
T6_closed : Closed T6
T6_closed s i hs hi =
    let p : ℕ → ℕ → Bool = λ s i. ltb (T6.next s i) 6 in
    ltb-true _ _ (every_at 2 (p s) (every_at 6 (λ s. every 2 (p s)) refl s hs) i hi)

-- P 4 is P 3, so the blocks of P 3 are equivalence.
pub never_parted : T6NeverParted
never_parted = (
  settled_alike T6 T6_closed 3 refl 0 3 (lit< tt) (lit< tt) refl,
  settled_alike T6 T6_closed 3 refl 4 4 (lit< tt) (lit< tt) refl,
)
