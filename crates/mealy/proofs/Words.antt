-- Sharing a block of P j is being told apart by no word of at most j inputs, and a word that tells can be extended.
use Rattle.std.proofs.Common.{◌≡◌, ℕ, zero, suc, ◌-◌, ◌<◌, ◌≤◌, true, List, [], ◌∷◌, ◌++◌, length, get_or, replicate, refl, arith, length-append}
use lib.ListN.{length-replicate}
use Rattle.mealy.specs.Mealy.{Mealy}
use Rattle.mealy.specs.Words.{Word, answer, Tells, EquivalentFor}
use Rattle.mealy.specs.Partitions.{share}
use Rattle.mealy.specs.BlocksAndWords.{ShareByWords, ExactLengthSuffices}
use Rattle.mealy.proofs.Share.{share_parts, share_from}
use Rattle.mealy.proofs.Telling.{AnswerAlike, alike_head, tells_later, tells_differ, untold_alike}

-- States that share a block answer alike.
share_answers : (m : Mealy) (j s t : ℕ) → share m j s t ≡ true
    → (w : List ℕ) → Word m.inputs w → length w ≤ j → AnswerAlike m m s t w
share_answers m j s t e [] ok short = refl
share_answers m zero s t e (i ∷ w) ok short = absurd (omega arith)
share_answers m (suc j) s t e (i ∷ w) ok short =
    let both = share_parts m j s t e i ok.0 in
    let tail = share_answers m j _ _ both.1 w ok.1 (omega arith) in
    cc

-- So no word of at most j inputs tells them apart.
pub share_alike : (m : Mealy) (j s t : ℕ) → share m j s t ≡ true → EquivalentFor m j s t
share_alike m j s t e w short tells = tells_differ m m s t w tells (share_answers m j s t e w tells.word short)

-- States that no such word tells apart share a block: their next states are told apart by no word one input shorter.
pub alike_share : (m : Mealy) (j s t : ℕ) → EquivalentFor m j s t → share m j s t ≡ true
alike_share m zero s t f = refl
alike_share m (suc j) s t f =
    share_from m j s t
    (λ i h. (
      alike_head _ _ _ _ (untold_alike m m s t (i ∷ []) (h, tt) (f (i ∷ []) (omega arith))),
      alike_share m j _ _ (λ w short tells. f (i ∷ w) (omega arith) (tells_later m m s t i w h tells)),
    ))

-- Both ways.
pub share_by_words : ShareByWords
share_by_words m j s t = (share_alike m j s t, alike_share m j s t)

-- A word followed by a word is a word.
word_append : (k : ℕ) (w v : List ℕ) → Word k w → Word k v → Word k (w ++ v)
word_append k [] v ok more = more
word_append k (i ∷ w) v ok more = (ok.0, word_append k w v ok.1 more)

-- An input said n times is a word.
word_repeat : (k n i : ℕ) → i < k → Word k (replicate n i)
word_repeat k zero i h = tt
word_repeat k (suc n) i h = (h, word_repeat k n i h)

-- What follows a word does not change the answer to it.
answer_append : (m : Mealy) (s : ℕ) (w v : List ℕ) (p : ℕ) → p < length w
    → get_or (answer m s (w ++ v)) p [] ≡ get_or (answer m s w) p []
answer_append m s [] v p h = absurd (omega arith)
answer_append m s (i ∷ w) v zero h = refl
answer_append m s (i ∷ w) v (suc p) h = answer_append m (m.next s i) w v p (omega arith)

-- So a word that tells goes on telling.
tells_append : (m : Mealy) (s t : ℕ) (w v : List ℕ) → Word m.inputs v → Tells m m s t w → Tells m m s t (w ++ v)
tells_append m s t w v more tells =
    let one = answer_append m s w v tells.place tells.within in
    let other = answer_append m t w v tells.place tells.within in
    record {
      word = word_append m.inputs w v tells.word more;
      place = tells.place;
      within = omega (arith, length-append w v, tells.within);
      differ = λ q. tells.differ (cc (one, other, q));
    }

-- And can be extended to any greater length, by its own first input.
extended : (m : Mealy) (j s t : ℕ) (w : List ℕ) → length w ≤ j → Tells m m s t w
    → (v : List ℕ) × ((length v ≡ j) × Tells m m s t v)
extended m j s t [] short tells = absurd (omega (arith, tells.within))
extended m j s t (i ∷ w) short tells =
    let left : ℕ = j - length (i ∷ w) in
    let more : List ℕ = replicate left i in
    let size : length ((i ∷ w) ++ more) ≡ j = omega (arith, length-append (i ∷ w) more, length-replicate left i) in
    let word = word_repeat m.inputs left i tells.word.0 in
    ((i ∷ w) ++ more, (size, tells_append m s t (i ∷ w) more word tells))

-- A word of just j inputs is one of at most j.
pub exact_length_suffices : ExactLengthSuffices
exact_length_suffices m j s t = (
  λ told. extended m j s t told.0 told.1.0 told.1.1,
  λ told. (told.0, (omega (arith, told.1.0), told.1.1)),
)
