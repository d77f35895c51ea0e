-- Lists written from the front.
use Rattle.std.proofs.Common.{◌≡◌, ℕ, zero, suc, ◌+◌, ◌*◌, ◌/◌, ◌<◌, ◌≤◌, true, false, eqb, List, [], ◌∷◌, length, get_or, take, drop, set, Option, Some, None, MatchOption, sym, refl, ap, ◌∙◌, subst, div-lt_iff_lt-mul, mul-zero, arith}
use Rattle.std.specs.List.{slice_get, AllWithin, HoldsAt}
use Rattle.std.proofs.lemmas.List.{length-take-le, get_or-take, drop-set-lt, drop-drop}
use Rattle.mealy.specs.Below.{lowest}
use Rattle.rounds.specs.Joining.{some_below}
use Rattle.rounds.proofs.Firsts.{lowest_is_found}

-- What stands behind one more place written.
pub rest_more : {X : Type 0} (xs ys : List X) (i : ℕ) (v : X) → drop i xs ≡ drop i ys → drop (i + 1) (set xs i v) ≡ drop (i + 1) ys
rest_more {X} xs ys i v e =
    drop-set-lt (i + 1) xs i v (omega arith) ∙ sym (drop-drop 1 i xs) ∙ ap (λ (z : List X). drop 1 z) e ∙ drop-drop 1 i ys

-- An element that is set, and another.
pub nth_set_same : {X : Type 0} (xs : List X) (i : ℕ) (v : X) → i < length xs → slice_get (set xs i v) i ≡ Some v
nth_set_same [] i v l = absurd (omega arith)
nth_set_same (x ∷ xs) zero v l = refl
nth_set_same (x ∷ xs) (suc i) v l = nth_set_same xs i v (omega arith)

pub nth_set_below : {X : Type 0} (xs : List X) (i k : ℕ) (v : X) → k < i → slice_get (set xs i v) k ≡ slice_get xs k
nth_set_below [] i k v l = refl
nth_set_below (x ∷ xs) zero k v l = absurd (omega arith)
nth_set_below (x ∷ xs) (suc i) zero v l = refl
nth_set_below (x ∷ xs) (suc i) (suc k) v l = nth_set_below xs i k v (omega arith)

-- A place x of rows of k lies in row x / k.
pub row_below : (x k b : ℕ) → 0 < k → x < b * k → x / k < b
row_below x k b h l = (div-lt_iff_lt-mul {k = k} {x = x} {y = b} h).1 l

pub some_width : (x b k : ℕ) → x < b * k → 0 < k
some_width x b zero h = absurd (omega (arith, mul-zero b))
some_width x b (suc k) h = omega arith

-- What was found in the front of a row is the lowest place.
pub place_is_found : (row : List ℕ) (n c : ℕ) (found : Option ℕ) → n ≤ length row
    → MatchOption found (AllWithin (λ x. eqb x c ≡ false) (take n row) 0 (length (take n row)))
    (λ i. (i < length (take n row)) × HoldsAt (λ x. eqb x c ≡ true) (take n row) i × AllWithin (λ x. eqb x c ≡ false) (take n row) 0 i)
    → found ≡ some_below n (lowest n (λ s. eqb (get_or row s 0) c))
place_is_found row n c None room none =
    lowest_is_found n (λ s. eqb (get_or row s 0) c) None
    (λ k z l. subst (λ (x : ℕ). eqb x c ≡ false) (get_or-take n row k 0 l) (none k 0 z (omega (arith, length-take-le n row room))))
place_is_found row n c (Some i) room (l, here, first) =
    let low : i < n = omega (arith, length-take-le n row room) in
    lowest_is_found n (λ s. eqb (get_or row s 0) c) (Some i) (
      omega arith,
      low,
      subst (λ (x : ℕ). eqb x c ≡ true) (get_or-take n row i 0 low) (here 0),
      λ k z b. subst (λ (x : ℕ). eqb x c ≡ false) (get_or-take n row k 0 (omega arith)) (first k 0 z b),
    )
