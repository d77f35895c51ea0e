-- The first of the shortest words that tell two states apart, computed from the partitions.
--   first_input m j s t   the lowest input at which s and t are not alike by the blocks of P j
--   first_word m j s t    the word of two states that part in round j
--   word_of m j s t       the word of two states that part by round j
--   Shortest m s t w      w tells s from t, and comes before every other word that does
use Rattle.std.specs.Prelude.{◌≡◌, ℕ, zero, suc, cond, not, ◌⊎◌, List, [], ◌∷◌}
use Rattle.mealy.specs.Mealy.{Mealy}
use Rattle.mealy.specs.Words.{Tells, Before}
use Rattle.mealy.specs.Keys.{same_key}
use Rattle.mealy.specs.Below.{lowest}
use Rattle.mealy.specs.Partitions.{alike_at, share, parted}

-- The lowest input at which the outputs of s and t differ or their next states lie in different blocks of P j.
abbrev pub first_input : Mealy → ℕ → ℕ → ℕ → ℕ
first_input m j s t = lowest m.inputs (λ i. not (alike_at m (share m j) s t i))

-- That input, and where its outputs are alike the word of the next states, which part a round earlier.
abbrev pub first_word : Mealy → ℕ → ℕ → ℕ → List ℕ
first_word m zero s t = []
first_word m (suc j) s t =
    let i = first_input m j s t in
    i ∷ cond (same_key (m.key s i) (m.key t i)) (first_word m j (m.next s i) (m.next t i)) []

-- The word of two states that part by round j.
abbrev pub word_of : Mealy → ℕ → ℕ → ℕ → List ℕ
word_of m j s t = first_word m (parted m j s t) s t

-- w tells the states apart, and every other word that does is longer, or as long and later in dictionary order.
abbrev pub Shortest : Mealy → ℕ → ℕ → List ℕ → Type 0
Shortest m s t w = Tells m m s t w × ((v : List ℕ) → Tells m m s t v → (v ≡ w) ⊎ Before w v)
