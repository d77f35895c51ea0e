-- What every layer owes, from what its parts together mean.
use Rattle.std.specs.Prelude.{◌≡◌, ℕ, ◌<◌, Bool, true, false, Ok, Err, Result, refl}
use Rattle.std.proofs.Common.{inl, inr, arith}
use Rattle.std.proofs.lemmas.Bool.Decides.{nat_tests}
use Rattle.machine.specs.Meaning.{Meaning, Fits, Sizes, Inside, Closed}
use Rattle.machine.specs.declared.Cell.{Cell}
use Rattle.layers.specs.declared.faults.LayerFault.{LayerFault}
use Rattle.layers.specs.Layers.{bounds_test, tested, layer}
use Rattle.layers.specs.Passes.{err_no_cell}

-- what the bounds let pass
bounds_pass : (n k s i : ℕ) (u : Unit {0}) → bounds_test n k s i ≡ Ok u → (s < n) × (i < k)
bounds_pass n k s i u h = (grind (arith, nat_tests), grind (arith, nat_tests))

module _ {O F : Type 0} (own : LayerFault → F) where
  -- a cell comes only after a test that passed
  tested_ok : (r : Result (Unit {0}) LayerFault) (next : Result (Cell O) F) (c : Cell O) → tested own r next ≡ Ok c
      → (r ≡ Ok tt) × (next ≡ Ok c)
  tested_ok (Ok u) next c h = (refl, h)
  tested_ok (Err f) next c h = absurd (err_no_cell _ c h)

  module _ (m : Meaning O F) (misfit : ℕ → ℕ → F) where
    pub layer_sizes : (fits : Bool) → (fits ≡ true → Fits m) → Sizes (layer own fits m misfit)
    layer_sizes true h =
        let f = h refl in
        inl record {
          some_states = f.some_states;
          few_states = f.few_states;
          some_inputs = f.some_inputs;
          few_inputs = f.few_inputs;
          starts = f.starts;
        }
    layer_sizes false h = inr record { no_states = refl; no_inputs = refl; no_start = refl }

    pub layer_inside : (fits : Bool) → Inside (layer own fits m misfit)
    layer_inside true s i c h =
        let t = tested_ok (bounds_test m.states m.inputs s i) (m.entry s i) c h in
        bounds_pass m.states m.inputs s i tt t.0
    layer_inside false s i c h = absurd (err_no_cell _ c h)

    pub layer_closed : (fits : Bool) → Closed m → Closed (layer own fits m misfit)
    layer_closed true closed s i c h =
        closed s i c (tested_ok (bounds_test m.states m.inputs s i) (m.entry s i) c h).1
    layer_closed false closed s i c h = absurd (err_no_cell _ c h)
