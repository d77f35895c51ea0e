-- A layer that is a misfit because of a part answers with that part's faults.
use Rattle.std.proofs.Common.{◌≡◌, ℕ, ◌≤◌, List, Ok, Err, Result, refl, arith}
use Rattle.std.proofs.lemmas.Bool.Decides.{nat_tests}
use Rattle.machine.specs.Meaning.{Meaning, Inside}
use Rattle.machine.specs.declared.outputs.Command.{Command}
use Rattle.layers.specs.declared.faults.KeymapFault.TheVariants as keymap
use Rattle.layers.specs.declared.faults.PairFault.TheVariants as pair
use Rattle.layers.specs.Besides.{beside}
use Rattle.layers.specs.Keymaps as keys
use Rattle.layers.specs.Layers.{Carries}
use Rattle.layers.specs.Trains.{train}

-- an answer that is no cell is a fault
fault_of : {X F : Type 0} (r : Result X F) → ((x : X) → r ≡ Ok x → ⊥) → (f : F) × (r ≡ Err f)
fault_of (Ok x) h = absurd (h x refl)
fault_of (Err f) h = (f, refl)

-- a misfit has a fault everywhere
has_fault : {O F : Type 0} (a : Meaning O F) → Inside a → a.states ≡ 0 → (s i : ℕ) → (f : F) × (a.entry s i ≡ Err f)
has_fault a inside none s i = fault_of (a.entry s i) (λ c h. let b = inside s i c h in omega arith)

module _ {O F G : Type 0} (a : Meaning O F) (b : Meaning O G) where
  pub beside_first : Inside a → Carries pair.First a (beside a b)
  beside_first inside none s i =
      let f = has_fault a inside none s i in
      (f.0, f.1, grind (arith, nat_tests))

  pub beside_second : Inside b → 1 ≤ a.states → Carries pair.Second b (beside a b)
  beside_second inside some none s i =
      let f = has_fault b inside none s i in
      (f.0, f.1, grind (arith, nat_tests))

module _ {O F G : Type 0} (a : Meaning Command F) (b : Meaning O G) where
  pub train_lower : Inside a → Carries pair.First a (train a b)
  train_lower inside none s i =
      let f = has_fault a inside none s i in
      (f.0, f.1, grind (arith, nat_tests))

  pub train_upper : Inside b → 1 ≤ a.states → Carries pair.Second b (train a b)
  train_upper inside some none s i =
      let f = has_fault b inside none s i in
      (f.0, f.1, grind (arith, nat_tests))

pub keymap_part : {O F : Type 0} (a : Meaning O F) (ks : List ℕ) → Inside a → Carries keymap.Part a (keys.keymap a ks)
keymap_part a ks inside none s i =
    let f = has_fault a inside none s i in
    (f.0, f.1, grind (arith, nat_tests))
