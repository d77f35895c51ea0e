-- What all layers share.
--   own_fault, bounds_test     the layer's own fault, and its test for causes 1 and 2
--   carried                    the fault of a part that is a misfit
--   pair_misfit, part_misfit   why parts do not go together
--   MisfitOf                   whether a part is a misfit, and with which fault
--   counts_of                  the counts that a layer has
--   layer                      what a layer means, and in which order it finds causes
--   Carries                    a layer answers with the faults of a part that is a misfit
use Rattle.std.specs.Prelude.{◌≡◌, ℕ, ◌≤◌, Bool, cond, Ok, Err, Option, Result, MatchOption, ◌==◌}
use Rattle.std.specs.Bool.{then_some}
use Rattle.machine.specs.Causes.{range_test}
use Rattle.machine.specs.Meaning.{Meaning}
use Rattle.machine.specs.declared.faults.Cause.{Cause}
use Rattle.machine.specs.declared.faults.Cause.TheVariants as cause
use Rattle.layers.specs.declared.counts.Counts.{Counts}
use Rattle.layers.specs.declared.faults.KeymapFault.{KeymapFault}
use Rattle.layers.specs.declared.faults.KeymapFault.TheVariants as keymap
use Rattle.layers.specs.declared.faults.LayerFault.{LayerFault}
use Rattle.layers.specs.declared.faults.PairFault.{PairFault}
use Rattle.layers.specs.declared.faults.PairFault.TheVariants as pair

-- the layer's own fault at state s and input i
abbrev pub own_fault : Cause → ℕ → ℕ → LayerFault
own_fault c s i = record { cause = c; state = s; input = i }

-- the state is one of n, and then the input one of k
abbrev pub bounds_test : ℕ → ℕ → ℕ → ℕ → Result (Unit {0}) LayerFault
bounds_test = range_test own_fault

-- what comes after the layer's own test
abbrev pub tested : {X F : Type 0} → (LayerFault → F) → Result (Unit {0}) LayerFault → Result X F → Result X F
tested own (Ok u) next = next
tested own (Err f) next = Err (own f)

-- The fault that a part answers, on its side. It is asked only of a misfit, which has no cell to answer.
abbrev pub carried : {X F G : Type 0} → (F → G) → G → Result X F → G
carried side none (Ok x) = none
carried side none (Err f) = side f

-- what is known of a part: the fault of a misfit, and none of any other
abbrev pub MisfitOf : {O F : Type 0} → Meaning O F → ℕ → ℕ → Option F → Type 0
MisfitOf m s i r = MatchOption r (1 ≤ m.states) (λ f. (m.states ≡ 0) × (m.entry s i ≡ Err f))

-- the fault of the part that is a misfit, the first before the second; the layer's own if neither is
abbrev pub pair_misfit : {O P F G : Type 0} → Meaning O F → Meaning P G → ℕ → ℕ → PairFault F G
pair_misfit a b s i =
    cond (a.states == 0) (carried pair.First (pair.Own (own_fault cause.Misfit s i)) (a.entry s i))
    (cond (b.states == 0) (carried pair.Second (pair.Own (own_fault cause.Misfit s i)) (b.entry s i))
    (pair.Own (own_fault cause.Misfit s i)))

-- the same of the one part of a key map
abbrev pub part_misfit : {O F : Type 0} → Meaning O F → ℕ → ℕ → KeymapFault F
part_misfit a s i =
    cond (a.states == 0) (carried keymap.Part (keymap.Own (own_fault cause.Misfit s i)) (a.entry s i))
    (keymap.Own (own_fault cause.Misfit s i))

-- What a layer means: m where its parts go together, and nothing where they do not. Cause 6 comes first, then 1, then 2.
abbrev pub layer : {O F : Type 0} → (LayerFault → F) → Bool → Meaning O F → (ℕ → ℕ → F) → Meaning O F
layer own fits m misfit = record {
  states = cond fits m.states 0;
  inputs = cond fits m.inputs 0;
  start = cond fits m.start 0;
  entry = λ s i. cond fits (tested own (bounds_test m.states m.inputs s i) (m.entry s i)) (Err (misfit s i));
}

-- the counts of m where a layer's parts go together
abbrev pub counts_of : {O F : Type 0} → Bool → Meaning O F → Option Counts
counts_of fits m = then_some fits (record { states = m.states; inputs = m.inputs })

-- Every answer of a part that is a misfit is a fault, and the layer's answer for the same numbers is that fault, on its side.
abbrev pub Carries : {O P F G : Type 0} → (F → G) → Meaning O F → Meaning P G → Type 0
Carries {F} side part m = part.states ≡ 0 → (s i : ℕ) → (f : F) × (part.entry s i ≡ Err f) × (m.entry s i ≡ Err (side f))
