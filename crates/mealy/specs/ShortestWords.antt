-- What the round in which two states part, and their word, say about all words.
use Rattle.std.specs.Prelude.{◌≡◌, ℕ, ◌≤◌, ◌↔◌, List, length}
use Rattle.mealy.specs.Mealy.{Mealy}
use Rattle.mealy.specs.Words.{Tells, ToldWithin}
use Rattle.mealy.specs.Partitions.{parted}
use Rattle.mealy.specs.FirstWord.{word_of, Shortest}

-- Two states part by round j exactly where a word of at most j inputs tells them apart.
abbrev pub PartedIsToldWithin : Type 0
PartedIsToldWithin = (m : Mealy) (j s t : ℕ) → (parted m j s t ≤ j) ↔ ToldWithin m j s t

-- The round in which two states part is the length of the shortest words that tell them apart.
abbrev pub PartedIsShortestLength : Type 0
PartedIsShortestLength =
    (m : Mealy) (j s t : ℕ) → parted m j s t ≤ j
    → ((w : List ℕ) × ((length w ≡ parted m j s t) × Tells m m s t w))
    × ((v : List ℕ) → Tells m m s t v → parted m j s t ≤ length v)

-- The computed word has that length, tells the states apart, and comes before every other word that does.
abbrev pub FirstWordIsShortest : Type 0
FirstWordIsShortest =
    (m : Mealy) (j s t : ℕ) → parted m j s t ≤ j
    → (length (word_of m j s t) ≡ parted m j s t) × Shortest m s t (word_of m j s t)
