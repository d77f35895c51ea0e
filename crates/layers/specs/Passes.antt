-- A cell that comes up through a layer is the part's own, and so its next state is one of the part's.
use Rattle.std.specs.Prelude.{◌≡◌, ℕ, ◌<◌, Ok, Err, Result}
use Rattle.std.proofs.Common.{sym, ◌∙◌}
use Rattle.machine.specs.Meaning.{Meaning, Closed}
use Rattle.machine.specs.declared.Cell.{Cell}
use Rattle.layers.specs.declared.faults.PairFault.{PairFault}
use Rattle.layers.specs.Faults.{in_first, in_second, in_part}

pub err_no_cell : {X F : Type 0} (e : F) (x : X) → ◌≡◌ {A = Result X F} (Err e) (Ok x) → ⊥
err_no_cell e x h = cc

pub first_ok : {X F : Type 0} (G : Type 0) (r : Result X F) (x : X) → in_first {G = G} r ≡ Ok x → r ≡ Ok x
first_ok G (Ok y) x h = cc
first_ok G (Err e) x h = absurd (err_no_cell _ x h)

pub second_ok : {X G : Type 0} (F : Type 0) (r : Result X G) (x : X) → in_second {F = F} r ≡ Ok x → r ≡ Ok x
second_ok F (Ok y) x h = cc
second_ok F (Err e) x h = absurd (err_no_cell _ x h)

pub part_ok : {X F : Type 0} (r : Result X F) (x : X) → in_part r ≡ Ok x → r ≡ Ok x
part_ok (Ok y) x h = cc
part_ok (Err e) x h = absurd (err_no_cell _ x h)

-- the same in the steps of a `?`: r is what the part answered, t what went up
module _ {O F G : Type 0} (s i : ℕ) (c : Cell O) (t : Result (Cell O) (PairFault F G)) where
  pub first_below : (m : Meaning O F) (r : Result (Cell O) F) → Closed m → r ≡ m.entry s i → t ≡ in_first r → t ≡ Ok c
      → c.next < m.states
  first_below m r closed e up ok = closed s i c (sym e ∙ first_ok G r c (sym up ∙ ok))

  pub second_below : (m : Meaning O G) (r : Result (Cell O) G) → Closed m → r ≡ m.entry s i → t ≡ in_second r → t ≡ Ok c
      → c.next < m.states
  second_below m r closed e up ok = closed s i c (sym e ∙ second_ok F r c (sym up ∙ ok))
