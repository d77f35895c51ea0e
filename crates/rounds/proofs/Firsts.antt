-- The lowest number that passes, where one does.
use Rattle.std.proofs.Common.{◌≡◌, ℕ, ◌<◌, ◌≤◌, Bool, true, false, Option, Some, None, MatchOption, ltb, sym, ap, ◌∙◌, ⊎_elim, arith}
use Rattle.std.proofs.lemmas.Bool.{cond-true, cond-false, lt-ltb, le-ltb, cases_lt}
use Rattle.mealy.specs.Below.{lowest}
use Rattle.rounds.specs.Joining.{some_below}
use Rattle.rounds.proofs.Passes.{lowest_found, lowest_none}

-- A number is below a limit or not.
some_if : (n x : ℕ) → x < n → some_below n x ≡ Some x
some_if n x h = cond-true (ltb x n) (Some x) None (lt-ltb x n h)

none_if : (n x : ℕ) → n ≤ x → some_below n x ≡ None
none_if n x h = cond-false (ltb x n) (Some x) None (le-ltb x n h)

-- What was found by looking from 0 on is the lowest.
pub lowest_is_found : (n : ℕ) (p : ℕ → Bool) (found : Option ℕ)
    → MatchOption found ((k : ℕ) → 0 ≤ k → k < n → p k ≡ false)
    (λ t. (0 ≤ t) × (t < n) × (p t ≡ true) × ((k : ℕ) → 0 ≤ k → k < t → p k ≡ false))
    → found ≡ some_below n (lowest n p)
lowest_is_found n p None none =
    sym (none_if n (lowest n p) (omega (arith, lowest_none n p (λ k l. none k (omega arith) l))))
lowest_is_found n p (Some t) (_, l, passes, first) =
    let e : lowest n p ≡ t = lowest_found n p t l (λ k b. first k (omega arith) b) passes in
    sym (some_if n (lowest n p) (omega arith) ∙ ap (λ (x : ℕ). Some x) e)

-- What was found, by one number or another.
pub below_some : (n x t : ℕ) → some_below n x ≡ Some t → (t ≡ x) × (t < n)
below_some n x t e =
    ⊎_elim
    (λ (l : x < n). let q : Some t ≡ Some x = sym e ∙ some_if n x l in let w : t ≡ x = (cc) in (w, omega arith))
    (λ (l : n ≤ x). let q : Some t ≡ None = sym e ∙ none_if n x l in absurd (cc)) (cases_lt x n)

pub below_none : (n x : ℕ) → some_below n x ≡ None → n ≤ x
below_none n x e =
    ⊎_elim (λ (l : x < n). let q : Some x ≡ None = sym (some_if n x l) ∙ e in absurd (cc)) (λ (l : n ≤ x). l) (cases_lt x n)
