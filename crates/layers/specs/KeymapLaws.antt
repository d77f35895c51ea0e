-- A machine under a key map keeps the limits, and leads to states.
use Rattle.std.specs.Prelude.{◌≡◌, ℕ, ◌<◌, true, false, List, length, take, slice_index}
use Rattle.std.proofs.Common.{ap, sym, ◌∙◌, arith}
use Rattle.std.proofs.lemmas.Bool.Decides.{nat_tests}
use Rattle.machine.specs.Meaning.{Meaning, Fits, Sizes, Inside, Closed}
use Rattle.layers.specs.declared.faults.KeymapFault.TheVariants as side
use Rattle.layers.specs.Keymaps.{keymap, keymap_fits, keymap_whole}
use Rattle.layers.specs.Layers.{layer, part_misfit}
use Rattle.layers.specs.LayerLaws.{layer_sizes, layer_inside, layer_closed}
use Rattle.layers.specs.Passes.{part_ok}

module _ {O F : Type 0} (a : Meaning O F) where
  whole_fits : (ks : List ℕ) → Sizes a → keymap_fits a ks ≡ true → Fits (keymap_whole a ks)
  whole_fits ks p h = record {
    some_states = grind (arith, nat_tests);
    few_states = grind (arith, nat_tests);
    some_inputs = grind (arith, nat_tests);
    few_inputs = grind (arith, nat_tests);
    starts = grind (arith, nat_tests);
  }

  whole_closed : (ks : List ℕ) → Closed a → Closed (keymap_whole a ks)
  whole_closed ks p s i c h = p s (slice_index ks i) c (part_ok (a.entry s (slice_index ks i)) c h)

  pub keymap_sizes : (ks : List ℕ) → Sizes a → Sizes (keymap a ks)
  keymap_sizes ks p = layer_sizes side.Own (keymap_whole a ks) (part_misfit a) (keymap_fits a ks) (whole_fits ks p)

  pub keymap_inside : (ks : List ℕ) → Inside (keymap a ks)
  keymap_inside ks = layer_inside side.Own (keymap_whole a ks) (part_misfit a) (keymap_fits a ks)

  pub keymap_closed : (ks : List ℕ) → Closed a → Closed (keymap a ks)
  keymap_closed ks p = layer_closed side.Own (keymap_whole a ks) (part_misfit a) (keymap_fits a ks) (whole_closed ks p)

  -- no key makes the same misfit as too many
  pub keymap_long : (n : ℕ) (ks js : List ℕ) → n ≡ 0 → 32 < length js → keymap a (take n ks) ≡ keymap a js
  keymap_long n ks js e h =
      let none : keymap_fits a (take n ks) ≡ false = rw e (grind (arith, nat_tests)) in
      let many : keymap_fits a js ≡ false = grind (arith, nat_tests) in
      ap (λ fits. layer side.Own fits (keymap_whole a (take n ks)) (part_misfit a)) none
      ∙ sym (ap (λ fits. layer side.Own fits (keymap_whole a js) (part_misfit a)) many)
