-- Being told apart is having different answers. Other proofs about words go by these lemmas.
use Rattle.std.proofs.Common.{◌≡◌, ℕ, zero, suc, ◌<◌, ◌⊎◌, List, [], ◌∷◌, get_or, ℤ, refl, ap, inl, inr, ⊎_elim, arith}
use Rattle.std.proofs.lemmas.Bool.{both_ways}
use Rattle.mealy.specs.Mealy.{Mealy}
use Rattle.mealy.specs.Words.{Word, answer, Tells, Equivalent}
use Rattle.mealy.specs.Keys.{same_key}
use Rattle.mealy.proofs.Below.{by_test}
use Rattle.mealy.proofs.Keys.{same_key_true, key_same}

-- The answers to a word are equal.
abbrev pub AnswerAlike : Mealy → Mealy → ℕ → ℕ → List ℕ → Type 0
AnswerAlike a b s t w = answer a s w ≡ answer b t w

-- Equal answers begin with equal keys.
pub alike_head : (x y : List ℤ) (xs ys : List (List ℤ)) → ◌≡◌ {A = List (List ℤ)} (x ∷ xs) (y ∷ ys) → x ≡ y
alike_head x y xs ys e = cc

-- Of states of two machines, or of one.
module _ (a b : Mealy) where
  -- An input at which the keys differ tells, whatever follows it.
  pub tells_here : (s t i : ℕ) (w : List ℕ) → Word a.inputs (i ∷ w)
      → (a.key s i ≡ b.key t i → ⊥) → Tells a b s t (i ∷ w)
  tells_here s t i w ok differ = record { word = ok; place = zero; within = omega arith; differ = differ }

  -- A word that tells the next states apart tells the states apart, after the input that leads there.
  pub tells_later : (s t i : ℕ) (w : List ℕ) → i < a.inputs
      → Tells a b (a.next s i) (b.next t i) w → Tells a b s t (i ∷ w)
  tells_later s t i w h tells =
      record { word = (h, tells.word); place = suc tells.place; within = omega arith; differ = tells.differ }

  -- Where a word tells, the answers are not equal.
  pub tells_differ : (s t : ℕ) (w : List ℕ) → Tells a b s t w → AnswerAlike a b s t w → ⊥
  tells_differ s t w tells e = tells.differ (ap (λ r. get_or r tells.place []) e)

  -- A word tells or the answers are equal, since keys can be compared one by one.
  told_or_alike : (s t : ℕ) (w : List ℕ) → Word a.inputs w → Tells a b s t w ⊎ AnswerAlike a b s t w
  told_or_alike s t [] ok = inr refl
  told_or_alike s t (i ∷ w) ok =
      by_test (same_key (a.key s i) (b.key t i))
      (λ e.
      let key = same_key_true (a.key s i) (b.key t i) e in
      let so = told_or_alike (a.next s i) (b.next t i) w ok.1 in
      ⊎_elim (λ tells. inl (tells_later s t i w ok.0 tells)) (λ q. inr (cc)) so)
      (λ e. inl (tells_here s t i w ok (λ q. both_ways _ e (key_same _ _ q))))

  -- So a word tells where the answers are not equal.
  pub differ_tells : (s t : ℕ) (w : List ℕ) → Word a.inputs w → (AnswerAlike a b s t w → ⊥) → Tells a b s t w
  differ_tells s t w ok differ = ⊎_elim (λ tells. tells) (λ e. absurd (differ e)) (told_or_alike s t w ok)

  -- And the answers are equal where the word does not tell.
  pub untold_alike : (s t : ℕ) (w : List ℕ) → Word a.inputs w → (Tells a b s t w → ⊥) → AnswerAlike a b s t w
  untold_alike s t w ok untold = ⊎_elim (λ tells. absurd (untold tells)) (λ e. e) (told_or_alike s t w ok)

  -- States that answer alike to every word are equivalent,
  pub answers_equivalent : (s t : ℕ) → ((w : List ℕ) → Word a.inputs w → AnswerAlike a b s t w) → Equivalent a b s t
  answers_equivalent s t f w tells = tells_differ s t w tells (f w tells.word)

  -- and equivalent states answer alike.
  pub equivalent_answers : (s t : ℕ) → Equivalent a b s t → (w : List ℕ) → Word a.inputs w → AnswerAlike a b s t w
  equivalent_answers s t f w ok = untold_alike s t w ok (f w)

  -- Where the first keys are equal, the rest of the word tells the next states apart.
  pub tells_rest : (s t i : ℕ) (w : List ℕ) → a.key s i ≡ b.key t i
      → Tells a b s t (i ∷ w) → Tells a b (a.next s i) (b.next t i) w
  tells_rest s t i w key tells =
      differ_tells (a.next s i) (b.next t i) w tells.word.1 (λ q. tells_differ s t (i ∷ w) tells (cc (key, q)))

-- Two states that are equivalent to one are equivalent.
pub equivalent_via : (m o : Mealy) (s t u : ℕ) → Equivalent m o s u → Equivalent m o t u → Equivalent m m s t
equivalent_via m o s t u f g =
    answers_equivalent m m s t
    (λ w ok.
    let one = equivalent_answers m o s u f w ok in
    let other = equivalent_answers m o t u g w ok in
    cc (one, other))
