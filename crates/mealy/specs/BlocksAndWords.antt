-- What the blocks of a partition say about words.
use Rattle.std.specs.Prelude.{◌≡◌, ℕ, true, ◌↔◌, List, length}
use Rattle.mealy.specs.Mealy.{Mealy}
use Rattle.mealy.specs.Words.{Tells, ToldWithin, EquivalentFor}
use Rattle.mealy.specs.Partitions.{share}

-- Sharing a block of P j is being told apart by no word of at most j inputs.
abbrev pub ShareByWords : Type 0
ShareByWords = (m : Mealy) (j s t : ℕ) → (share m j s t ≡ true) ↔ EquivalentFor m j s t

-- A word of at most j inputs tells two states apart exactly where one of just j inputs does.
-- To extend a word takes at least one input; no premise says so, since a word that tells has one.
abbrev pub ExactLengthSuffices : Type 0
ExactLengthSuffices =
    (m : Mealy) (j s t : ℕ) → ToldWithin m j s t ↔ ((w : List ℕ) × ((length w ≡ j) × Tells m m s t w))
