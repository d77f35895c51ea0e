-- Words of inputs, the answers of states to them, and equivalence by words.
--   Word k w                 w is a word over k inputs
--   answer m s w             the keys of the outputs met from s on
--   Tells a b s t w          w tells s, a state of a, from t, a state of b
--   ToldWithin m j s t      some word of at most j inputs tells s from t
--   EquivalentFor m j s t    no word of at most j inputs tells s from t
--   Equivalent a b s t       no word tells s from t
--   EquivalentMachines a b   each state of either has an equivalent state in the other
--   Earlier v w              v comes before w in dictionary order
--   Before v w               v is shorter than w, or as long and earlier
use Rattle.std.specs.Prelude.{◌≡◌, ℕ, ◌<◌, ◌≤◌, ◌≢◌, ◌⊎◌, List, [], ◌∷◌, length, get_or, ℤ, slice_index_or}
use Rattle.mealy.specs.Mealy.{Mealy}

-- A word over k inputs has numbers below k.
abbrev pub Word : ℕ → List ℕ → Type 0
Word k [] = Unit {0}
Word k (i ∷ w) = (i < k) × Word k w

-- The answer of a state to a word: the keys of the outputs met on the way, one for each input.
abbrev pub answer : Mealy → ℕ → List ℕ → List (List ℤ)
answer m s [] = []
answer m s (i ∷ w) = m.key s i ∷ answer m (m.next s i) w

-- A word tells two states apart, of one machine or of two with equal inputs:
-- at some place their answers to it have different keys.
pub record Tells (a b : Mealy) (s t : ℕ) (w : List ℕ) : Type 0 where
  pub word : Word a.inputs w
  pub place : ℕ
  pub within : place < length w
  pub differ : get_or (answer a s w) place [] ≢ slice_index_or (answer b t w) place []

-- Some word of at most j inputs tells the states apart.
abbrev pub ToldWithin : Mealy → ℕ → ℕ → ℕ → Type 0
ToldWithin m j s t = (w : List ℕ) × ((length w ≤ j) × Tells m m s t w)

-- No word of at most j inputs tells the states apart.
abbrev pub EquivalentFor : Mealy → ℕ → ℕ → ℕ → Type 0
EquivalentFor m j s t = (w : List ℕ) → length w ≤ j → Tells m m s t w → ⊥

-- No word tells the states apart.
abbrev pub Equivalent : Mealy → Mealy → ℕ → ℕ → Type 0
Equivalent a b s t = (w : List ℕ) → Tells a b s t w → ⊥

-- Each state of either machine has an equivalent state in the other. Where they start plays no part.
pub record EquivalentMachines (a b : Mealy) : Type 0 where
  pub same_inputs : a.inputs ≡ b.inputs
  pub forth : (s : ℕ) → s < a.states → (t : ℕ) × ((t < b.states) × Equivalent a b s t)
  pub back : (t : ℕ) → t < b.states → (s : ℕ) × ((s < a.states) × Equivalent a b s t)

-- Dictionary order: the lower input at the first place where they differ, or an end there.
abbrev pub Earlier : List ℕ → List ℕ → Type 0
Earlier [] [] = ⊥
Earlier [] (j ∷ w) = Unit {0}
Earlier (i ∷ v) [] = ⊥
Earlier (i ∷ v) (j ∷ w) = (i < j) ⊎ ((i ≡ j) × Earlier v w)

-- Shorter, or as long and earlier.
abbrev pub Before : List ℕ → List ℕ → Type 0
Before v w = (length v < length w) ⊎ ((length v ≡ length w) × Earlier v w)
