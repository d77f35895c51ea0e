-- The computed word of two states that part in round j is the first of the shortest that tell them apart.
use Rattle.std.proofs.Common.{◌≡◌, ℕ, zero, suc, ◌<◌, ◌≤◌, Bool, true, false, not, ◌⊎◌, List, [], ◌∷◌, length, sym, refl, ap, inl, inr, ⊎_elim, arith}
use Rattle.std.proofs.lemmas.Bool.{cases_order, cond_both, and_cases, and_parts, not-true, not-false, both_ways, false≢true}
use Rattle.mealy.specs.Mealy.{Mealy}
use Rattle.mealy.specs.Words.{Tells, Earlier, Before}
use Rattle.mealy.specs.Keys.{same_key}
use Rattle.mealy.specs.Partitions.{alike_at, share}
use Rattle.mealy.specs.FirstWord.{first_input, first_word, Shortest}
use Rattle.mealy.proofs.Below.{by_order, lowest_is}
use Rattle.mealy.proofs.Keys.{same_key_true, key_same}
use Rattle.mealy.proofs.Share.{Joined, share_parts, share_from}
use Rattle.mealy.proofs.Telling.{tells_here, tells_later, tells_rest}
use Rattle.mealy.proofs.Words.{share_alike}

-- Input i sets the states apart.
abbrev apart_at : Mealy → ℕ → ℕ → ℕ → ℕ → Bool
apart_at m j s t i = not (alike_at m (share m j) s t i)

-- An input that does not has them joined.
joined_at : (m : Mealy) (j s t i : ℕ) → apart_at m j s t i ≡ false → Joined m j s t i
joined_at m j s t i e = let both = and_parts _ _ (not-false _ e) in (same_key_true _ _ both.0, both.1)

-- States that no input sets apart share a block of P (j + 1).
none_apart : (m : Mealy) (j s t : ℕ) → m.inputs ≤ first_input m j s t → share m (suc j) s t ≡ true
none_apart m j s t g =
    let is = lowest_is m.inputs (apart_at m j s t) in
    share_from m j s t (λ i h. joined_at m j s t i (is.first i (omega arith)))

-- So those that do not share one have a first input that sets them apart.
pub first_within : (m : Mealy) (j s t : ℕ) → share m (suc j) s t ≡ false → first_input m j s t < m.inputs
first_within m j s t apart =
    by_order (first_input m j s t) m.inputs (λ l. l) (λ g. absurd (both_ways _ apart (none_apart m j s t g)))

-- Where the keys at it are equal, it leads to states that do not share a block of P j.
pub first_next : (m : Mealy) (j s t : ℕ) → share m (suc j) s t ≡ false
    → let f = first_input m j s t in
    same_key (m.key s f) (m.key t f) ≡ true → share m j (m.next s f) (m.next t f) ≡ false
first_next m j s t apart e =
    let passes = (lowest_is m.inputs (apart_at m j s t)).passes (first_within m j s t apart) in
    ⊎_elim (λ differ. absurd (both_ways _ differ e)) (λ part. part) (and_cases _ _ (not-true _ passes))

-- A word of no inputs is empty.
no_length : (v : List ℕ) → length v ≡ 0 → v ≡ []
no_length [] e = refl
no_length (x ∷ v) e = absurd (omega arith)

-- w has j inputs, and is the first of the shortest words that tell s and t apart.
abbrev pub First : Mealy → ℕ → ℕ → ℕ → List ℕ → Type 0
First m j s t w = (length w ≡ j) × Shortest m s t w

-- The states share a block of P k and none of P (k + 1), and f is the first input that sets them apart.
-- Where w is the first of the words of k inputs that tell after f, f and w make the first of the shortest words.
module _ (m : Mealy) (k s t : ℕ) (so : share m k s t ≡ true) (apart : share m (suc k) s t ≡ false)
    (w : List ℕ) (size : length w ≡ k)
    (rest : (v : List ℕ) → Tells m m s t (first_input m k s t ∷ v) → length v ≡ k → (v ≡ w) ⊎ Earlier w v) where
  -- A word as long begins with f, or with a later input: at a lower one the states are joined.
  as_long : (i : ℕ) (v : List ℕ) → Tells m m s t (i ∷ v) → length v ≡ k
      → (i ∷ v ≡ first_input m k s t ∷ w) ⊎ Earlier (first_input m k s t ∷ w) (i ∷ v)
  as_long i v tells same =
      elim (cases_order i (first_input m k s t)) [
        | inl e ↦ let f = first_input m k s t in
            rw e (⊎_elim (λ q. inl (ap (λ u. f ∷ u) q)) (λ q. inr (inr (refl, q))) (rest v (rw e at tells) same))
        | inr (inl lower) ↦ let both = joined_at m k s t i ((lowest_is m.inputs (apart_at m k s t)).first i lower) in
            absurd (share_alike m k _ _ both.1 v (omega arith) (tells_rest m m s t i v both.0 tells))
        | inr (inr later) ↦ inr (inl later)
      ]

  -- A shorter word does not tell, since the states share a block of P k.
  no_sooner : (v : List ℕ) → Tells m m s t v → (v ≡ first_input m k s t ∷ w) ⊎ Before (first_input m k s t ∷ w) v
  no_sooner [] tells = absurd (omega (arith, tells.within))
  no_sooner (i ∷ v) tells =
      elim (cases_order (length v) k) [
        | inl same ↦ ⊎_elim inl (λ q. inr (inr (omega arith, q))) (as_long i v tells same)
        | inr (inl shorter) ↦ absurd (share_alike m k s t so (i ∷ v) (omega arith) tells)
        | inr (inr longer) ↦ inr (inl (omega arith))
      ]

  -- All together.
  first_by : Tells m m s t (first_input m k s t ∷ w) → First m (suc k) s t (first_input m k s t ∷ w)
  first_by tells = (ap suc size, (tells, no_sooner))

-- After f comes the first word of the next states.
first_after : (m : Mealy) (k s t : ℕ) → share m (suc k) s t ≡ true → share m (suc (suc k)) s t ≡ false
    → let f = first_input m (suc k) s t in let w = first_word m (suc k) (m.next s f) (m.next t f) in
    m.key s f ≡ m.key t f → First m (suc k) (m.next s f) (m.next t f) w → First m (suc (suc k)) s t (f ∷ w)
first_after m k s t so apart key is =
    let f = first_input m (suc k) s t in
    let w = first_word m (suc k) (m.next s f) (m.next t f) in
    first_by m (suc k) s t so apart w is.0
    (λ v tells size.
    let order = is.1.1 v (tells_rest m m s t f v key tells) in
    ⊎_elim inl (⊎_elim (λ l. absurd (omega (arith, is.0))) (λ q. inr q.1)) order)
    (tells_later m m s t f w (first_within m (suc k) s t apart) is.1.0)

-- By induction on k, with the states that f leads to.
pub first_word_lem : (m : Mealy) (k s t : ℕ) → share m k s t ≡ true → share m (suc k) s t ≡ false
    → First m (suc k) s t (first_word m (suc k) s t)
first_word_lem m zero s t so apart =
    let f = first_input m zero s t in
    let within = first_within m zero s t apart in
    cond_both (same_key (m.key s f) (m.key t f)) [] [] (λ r. First m 1 s t (f ∷ r))
    (λ e. absurd (false≢true (sym (first_next m zero s t apart e))))
    (λ e. first_by m zero s t so apart [] refl (λ v _ size. inl (no_length v size))
    (tells_here m m s t f [] (within, tt) (λ q. both_ways _ e (key_same _ _ q))))
first_word_lem m (suc k) s t so apart =
    let f = first_input m (suc k) s t in
    let w = first_word m (suc k) (m.next s f) (m.next t f) in
    let both = share_parts m k s t so f (first_within m (suc k) s t apart) in
    cond_both (same_key (m.key s f) (m.key t f)) w [] (λ r. First m (suc (suc k)) s t (f ∷ r))
    (λ e. first_after m k s t so apart both.0 (first_word_lem m k _ _ both.1 (first_next m (suc k) s t apart e)))
    (λ e. absurd (both_ways _ e (key_same _ _ both.0)))
