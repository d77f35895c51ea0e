-- The round in which two states part, the words of that length, and the bound on it.
use Rattle.std.proofs.Common.{◌≡◌, ℕ, zero, suc, ◌-◌, ◌≤◌, false, not, List, length, ⊎_elim, arith}
use Rattle.std.proofs.lemmas.Bool.{not-true, not-false, not_from_false, false≢true}
use Rattle.mealy.specs.Mealy.{Mealy}
use Rattle.mealy.specs.Words.{Tells, ToldWithin}
use Rattle.mealy.specs.Partitions.{share, parted}
use Rattle.mealy.specs.FirstWord.{first_word, word_of}
use Rattle.mealy.specs.Settling.{ShortWordsSuffice}
use Rattle.mealy.specs.ShortestWords.{PartedIsToldWithin, PartedIsShortestLength, FirstWordIsShortest}
use Rattle.mealy.proofs.Below.{by_test, Lowest, lowest_is, lowest_le}
use Rattle.mealy.proofs.Words.{share_alike}
use Rattle.mealy.proofs.Settled.{settles_by_its_size, settled_alike}
use Rattle.mealy.proofs.FirstWord.{First, first_word_lem}

-- States that part in round p share a block of the partition before.
parted_word : (m : Mealy) (j s t p : ℕ) → Lowest (suc j) (λ i. not (share m i s t)) p → p ≤ j
    → First m p s t (first_word m p s t)
parted_word m j s t zero so h = absurd (false≢true (so.passes (omega arith)))
parted_word m j s t (suc k) so h =
    first_word_lem m k s t (not-false _ (so.first k (omega arith))) (not-true _ (so.passes (omega arith)))

-- The round in which they part is such a p.
pub first_word_is_shortest : FirstWordIsShortest
first_word_is_shortest m j s t h =
    parted_word m j s t (parted m j s t) (lowest_is (suc j) (λ i. not (share m i s t))) h

-- The first of the shortest words is no longer than any that tells.
pub no_shorter : (m : Mealy) (s t j : ℕ) (w : List ℕ) → First m j s t w
    → (v : List ℕ) → Tells m m s t v → j ≤ length v
no_shorter m s t j w is v tells =
    ⊎_elim (λ e. rw e (omega (arith, is.0))) (λ before. omega (arith, is.0)) (is.1.1 v tells)

-- The computed word has the length, and none that tells is shorter.
pub parted_is_shortest_length : PartedIsShortestLength
parted_is_shortest_length m j s t h =
    let is = first_word_is_shortest m j s t h in
    ((word_of m j s t, (is.0, is.1.0)), no_shorter m s t _ _ is)

-- States in different blocks of P j have parted.
pub apart_parted : (m : Mealy) (j s t : ℕ) → share m j s t ≡ false → parted m j s t ≤ j
apart_parted m j s t apart = lowest_le (suc j) (λ i. not (share m i s t)) j (not_from_false _ apart)

-- A word that tells states apart finds them in different blocks.
told_parted : (m : Mealy) (j s t : ℕ) → ToldWithin m j s t → parted m j s t ≤ j
told_parted m j s t told =
    by_test (share m j s t)
    (λ e. absurd (share_alike m j s t e told.0 told.1.0 told.1.1))
    (apart_parted m j s t)

-- Parted states are told apart by their computed word.
parted_told : (m : Mealy) (j s t : ℕ) → parted m j s t ≤ j → ToldWithin m j s t
parted_told m j s t h =
    let is = first_word_is_shortest m j s t h in
    (word_of m j s t, (omega (arith, is.0), is.1.0))

-- Both ways.
pub parted_is_told_within : PartedIsToldWithin
parted_is_told_within m j s t = (parted_told m j s t, told_parted m j s t)

-- By the partition before round n, which is settled, the states are equivalent or have parted.
pub short_words_suffice : ShortWordsSuffice
short_words_suffice m closed s t hs ht w tells =
    let j : ℕ = m.states - 1 in
    by_test (share m j s t)
    (λ e. absurd (settled_alike m closed j (settles_by_its_size m closed (omega arith)) s t hs ht e w tells))
    (λ e. parted_told m j s t (apart_parted m j s t e))
