-- Machines beside each other keep the limits, and lead to states.
use Rattle.std.specs.Prelude.{◌≡◌, ℕ, ◌+◌, ◌-◌, ◌<◌, true, Ok, Err, Result, refl}
use Rattle.std.proofs.Common.{arith}
use Rattle.std.proofs.lemmas.Bool.Decides.{nat_tests}
use Rattle.machine.specs.Meaning.{Meaning, Fits, Sizes, Inside, Closed}
use Rattle.machine.specs.declared.Cell.{Cell}
use Rattle.layers.specs.declared.faults.PairFault.TheVariants as pair
use Rattle.layers.specs.Besides.{beside, beside_fits, beside_whole, shifted}
use Rattle.layers.specs.Faults.{in_first, in_second}
use Rattle.layers.specs.Layers.{pair_misfit}
use Rattle.layers.specs.LayerLaws.{layer_sizes, layer_inside, layer_closed}
use Rattle.layers.specs.Passes.{err_no_cell, first_ok, second_ok}

-- a cell that was shifted
shifted_ok : {O F : Type 0} (n : ℕ) (r : Result (Cell O) F) (c : Cell O) → shifted n r ≡ Ok c
    → (d : Cell O) × (r ≡ Ok d) × (c.next ≡ n + d.next)
shifted_ok n (Ok d) c h = (d, refl, cc)
shifted_ok n (Err f) c h = absurd (err_no_cell f c h)

module _ {O F G : Type 0} (a : Meaning O F) (b : Meaning O G) where
  whole_fits : Sizes a → Sizes b → beside_fits a b ≡ true → Fits (beside_whole a b)
  whole_fits p q h = record {
    some_states = grind (arith, nat_tests);
    few_states = grind (arith, nat_tests);
    some_inputs = grind (arith, nat_tests);
    few_inputs = grind (arith, nat_tests);
    starts = grind (arith, nat_tests);
  }

  whole_closed : Closed a → Closed b → Closed (beside_whole a b)
  whole_closed p q s i c h =
      let first : in_first {G = G} (a.entry s i) ≡ Ok c → c.next < a.states + b.states =
      λ e. omega (arith, p s i c (first_ok G (a.entry s i) c e)) in
      let second : shifted a.states (in_second {F = F} (b.entry (s - a.states) i)) ≡ Ok c → c.next < a.states + b.states =
      λ e. let w = shifted_ok a.states (in_second {F = F} (b.entry (s - a.states) i)) c e in
      omega (arith, w.2, q (s - a.states) i w.0 (second_ok F (b.entry (s - a.states) i) w.0 w.1)) in
      grind (arith, nat_tests)

  pub beside_sizes : Sizes a → Sizes b → Sizes (beside a b)
  beside_sizes p q = layer_sizes pair.Own (beside_whole a b) (pair_misfit a b) (beside_fits a b) (whole_fits p q)

  pub beside_inside : Inside (beside a b)
  beside_inside = layer_inside pair.Own (beside_whole a b) (pair_misfit a b) (beside_fits a b)

  pub beside_closed : Closed a → Closed b → Closed (beside a b)
  beside_closed p q = layer_closed pair.Own (beside_whole a b) (pair_misfit a b) (beside_fits a b) (whole_closed p q)
