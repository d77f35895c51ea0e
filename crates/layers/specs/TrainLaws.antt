-- A machine that feeds another keeps the limits, and leads to states.
use Rattle.std.specs.Prelude.{◌≡◌, ℕ, ◌+◌, ◌*◌, ◌/◌, ◌%◌, ◌<◌, true, Ok, Err, Result, refl}
use Rattle.std.proofs.Common.{arith}
use Rattle.std.proofs.lemmas.Nat.{mul-add-lt}
use Rattle.std.proofs.lemmas.Bool.Decides.{nat_tests}
use Rattle.machine.specs.Meaning.{Meaning, Fits, Sizes, Inside, Closed}
use Rattle.machine.specs.declared.Cell.{Cell}
use Rattle.machine.specs.declared.outputs.Command.{Command}
use Rattle.layers.specs.declared.faults.PairFault.TheVariants as pair
use Rattle.layers.specs.Faults.{in_second}
use Rattle.layers.specs.Layers.{pair_misfit}
use Rattle.layers.specs.Trains.{fed, joined, driven, train, train_fits, train_whole}
use Rattle.layers.specs.LayerLaws.{layer_sizes, layer_inside, layer_closed}
use Rattle.layers.specs.Passes.{err_no_cell, second_ok}

-- a cell that was joined
joined_ok : {O F : Type 0} (n next : ℕ) (r : Result (Cell O) F) (c : Cell O) → joined n next r ≡ Ok c
    → (d : Cell O) × (r ≡ Ok d) × (c.next ≡ next * n + d.next)
joined_ok n next (Ok d) c h = (d, refl, cc)
joined_ok n next (Err f) c h = absurd (err_no_cell f c h)

module _ {O F G : Type 0} (a : Meaning Command F) (b : Meaning O G) where
  whole_fits : Sizes a → Sizes b → train_fits a b ≡ true → Fits (train_whole a b)
  whole_fits p q h =
      let starts = mul-add-lt a.start b.states b.start a.states in
      record {
        some_states = grind (arith, nat_tests);
        few_states = grind (arith, nat_tests);
        some_inputs = grind (arith, nat_tests);
        few_inputs = grind (arith, nat_tests);
        starts = grind (arith, nat_tests);
      }

  driven_closed : Closed b → (t : ℕ) (r : Result (Cell Command) F) (c : Cell O) → ((d : Cell Command) → r ≡ Ok d → d.next < a.states)
      → driven b t r ≡ Ok c → c.next < a.states * b.states
  driven_closed q t (Ok d) c p h =
      let up = b.entry t (fed d.output b.inputs) in
      let w = joined_ok b.states d.next (in_second {F = F} up) c h in
      let below = q t (fed d.output b.inputs) w.0 (second_ok F up w.0 w.1) in
      omega (arith, w.2, mul-add-lt d.next b.states w.0.next a.states (p d refl) below)
  driven_closed q t (Err f) c p h = absurd (err_no_cell _ c h)

  whole_closed : Closed a → Closed b → Closed (train_whole a b)
  whole_closed p q s i c h = driven_closed q (s % b.states) (a.entry (s / b.states) i) c (λ d e. p (s / b.states) i d e) h

  pub train_sizes : Sizes a → Sizes b → Sizes (train a b)
  train_sizes p q = layer_sizes pair.Own (train_whole a b) (pair_misfit a b) (train_fits a b) (whole_fits p q)

  pub train_inside : Inside (train a b)
  train_inside = layer_inside pair.Own (train_whole a b) (pair_misfit a b) (train_fits a b)

  pub train_closed : Closed a → Closed b → Closed (train a b)
  train_closed p q = layer_closed pair.Own (train_whole a b) (pair_misfit a b) (train_fits a b) (whole_closed p q)
