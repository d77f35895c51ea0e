-- Lists that grow row by row.
use Rattle.std.proofs.Common.{◌≡◌, ℕ, ◌+◌, List, [], ◌∷◌, ◌++◌, ap, ◌∙◌, append_assoc, add-one}
use Rattle.bench.specs.Tables.{up_to}

-- one list more
pub one_more_lem : {A : Type 0} (old now after : List A) (f : ℕ → List A) (n : ℕ)
    → now ≡ old ++ up_to f n → after ≡ now ++ f n → after ≡ old ++ up_to f (n + 1)
one_more_lem {A} old now after f n p q = rw (add-one) (q ∙ (ap (λ (l : List A). l ++ f n) p ∙ append_assoc old (up_to f n) (f n)))

-- all lists below m, and one place more
pub last_more : {A : Type 0} (old now after : List A) (f : ℕ → List A) (n m : ℕ) (x y : A)
    → now ≡ old ++ up_to f n → after ≡ now ++ x ∷ [] → n ≡ m → x ≡ y → after ≡ old ++ (up_to f m ++ y ∷ [])
last_more {A} old now after f n m x y p q e d =
    q ∙ (ap (λ (l : List A). l ++ x ∷ []) p ∙ (append_assoc old (up_to f n) (x ∷ [])
    ∙ (ap (λ (i : ℕ). old ++ (up_to f i ++ x ∷ [])) e ∙ ap (λ (z : A). old ++ (up_to f m ++ z ∷ [])) d)))
