-- Texts joined piece by piece.
use Rattle.std.proofs.Common.{◌≡◌, ℕ, List, ◌++◌, IfOk, Ok, Err, Result, ap, ◌∙◌, append_assoc}

-- y written behind x
pub joined : {U E : Type 0} (r : Result U E) (old mid new x y : List ℕ) → mid ≡ old ++ x → IfOk r (λ _. new ≡ mid ++ y)
    → IfOk r (λ _. new ≡ old ++ (x ++ y))
joined (Ok u) old mid new x y e h = h ∙ (ap (λ (t : List ℕ). t ++ y) e ∙ append_assoc old x y)
joined (Err f) old mid new x y e h = tt

-- a line's head of two pieces, before the rest
pub regrouped : {U E : Type 0} (r : Result U E) (old new x y z : List ℕ) → IfOk r (λ _. new ≡ old ++ ((x ++ y) ++ z))
    → IfOk r (λ _. new ≡ old ++ (x ++ (y ++ z)))
regrouped (Ok u) old new x y z h = h ∙ ap (λ (t : List ℕ). old ++ t) (append_assoc x y z)
regrouped (Err f) old new x y z h = tt
