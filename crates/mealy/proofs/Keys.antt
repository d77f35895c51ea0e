-- The test of keys is equality.
use Rattle.std.proofs.Common.{◌≡◌, true, List, [], ◌∷◌, ℤ, pos, negsuc, refl, ap}
use Rattle.std.proofs.lemmas.Bool.{and_parts, and_from, eqb-true, eq-eqb, false≢true}
use Rattle.mealy.specs.Keys.{same_int, same_key}

-- Numbers that pass the test are equal.
same_int_true : (x y : ℤ) → same_int x y ≡ true → x ≡ y
same_int_true (pos a) (pos b) e = ap pos (eqb-true a b e)
same_int_true (pos a) (negsuc b) e = absurd (false≢true e)
same_int_true (negsuc a) (pos b) e = absurd (false≢true e)
same_int_true (negsuc a) (negsuc b) e = ap negsuc (eqb-true a b e)

-- A number is the same as itself.
same_int_refl : (x : ℤ) → same_int x x ≡ true
same_int_refl (pos a) = eq-eqb a a refl
same_int_refl (negsuc a) = eq-eqb a a refl

-- Keys that pass the test are equal.
pub same_key_true : (x y : List ℤ) → same_key x y ≡ true → x ≡ y
same_key_true [] [] e = refl
same_key_true [] (y ∷ ys) e = absurd (false≢true e)
same_key_true (x ∷ xs) [] e = absurd (false≢true e)
same_key_true (x ∷ xs) (y ∷ ys) e =
    let both = and_parts _ _ e in
    let head = same_int_true x y both.0 in
    let tail = same_key_true xs ys both.1 in
    cc

-- A key is the same as itself.
same_key_refl : (x : List ℤ) → same_key x x ≡ true
same_key_refl [] = refl
same_key_refl (x ∷ xs) = and_from _ _ (same_int_refl x) (same_key_refl xs)

-- Equal keys pass the test.
pub key_same : (x y : List ℤ) → x ≡ y → same_key x y ≡ true
key_same x y e = rw e (same_key_refl y)
