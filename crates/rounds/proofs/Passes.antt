-- `every`, `lowest` and `count` of a number more, and of tests that agree.
use Rattle.std.proofs.Common.{◌≡◌, ℕ, zero, suc, ◌+◌, ◌<◌, Bool, true, false, cond, ◌&&◌, ltb, sym, refl, ap, ◌∙◌, subst, ⊎_elim, add-one, arith}
use Rattle.std.proofs.lemmas.Bool.{and_from, and_left, and_right, lt-ltb, le-ltb, cond-true, cond-false, cases_eq}
use Rattle.mealy.specs.Below.{every, lowest, count}

-- One more that passes.
pub every_more : (n : ℕ) (p : ℕ → Bool) → every n p ≡ true → p n ≡ true → every (n + 1) p ≡ true
every_more n p e h = rw add-one (and_from (every n p) (p n) e h)

-- One that does not pass.
pub every_not : (n : ℕ) (p : ℕ → Bool) (i : ℕ) → i < n → p i ≡ false → every n p ≡ false
every_not zero p i h e = absurd (omega arith)
every_not (suc n) p i h e =
    ⊎_elim (λ (q : i ≡ n). and_right (every n p) (p n) (subst (λ (x : ℕ). p x ≡ false) q e))
    (λ (q : i ≡ n → ⊥). and_left (every n p) (p n) (every_not n p i (omega arith) e)) (cases_eq i n)

-- Tests that agree below n have one answer.
pub every_same : (n : ℕ) (p q : ℕ → Bool) → ((i : ℕ) → i < n → p i ≡ q i) → every n p ≡ every n q
every_same zero p q h = refl
every_same (suc n) p q h =
    ap (λ (b : Bool). b && p n) (every_same n p q (λ i l. h i (omega arith)))
    ∙ ap (λ (b : Bool). every n q && b) (h n (omega arith))

-- Where none below n passes, the lowest is n.
pub lowest_none : (n : ℕ) (p : ℕ → Bool) → ((i : ℕ) → i < n → p i ≡ false) → lowest n p ≡ n
lowest_none zero p h = refl
lowest_none (suc n) p h =
    let e : lowest n p ≡ n = lowest_none n p (λ i l. h i (omega arith)) in
    cond-false (ltb (lowest n p) n) (lowest n p) (cond (p n) n (suc n)) (le-ltb (lowest n p) n (omega arith))
    ∙ cond-false (p n) n (suc n) (h n (omega arith))

-- The first that passes is the lowest below any bound past it.
pub lowest_found : (n : ℕ) (p : ℕ → Bool) (t : ℕ) → t < n → ((i : ℕ) → i < t → p i ≡ false) → p t ≡ true
    → lowest n p ≡ t
lowest_found zero p t l h e = absurd (omega arith)
lowest_found (suc n) p t l h e =
    ⊎_elim
    (λ (q : t ≡ n).
    let none : lowest n p ≡ n = lowest_none n p (λ i k. h i (omega arith)) in
    cond-false (ltb (lowest n p) n) (lowest n p) (cond (p n) n (suc n)) (le-ltb (lowest n p) n (omega arith))
    ∙ cond-true (p n) n (suc n) (subst (λ (x : ℕ). p x ≡ true) q e) ∙ sym q)
    (λ (q : t ≡ n → ⊥).
    let here : lowest n p ≡ t = lowest_found n p t (omega arith) h e in
    cond-true (ltb (lowest n p) n) (lowest n p) (cond (p n) n (suc n)) (lt-ltb (lowest n p) n (omega arith)) ∙ here)
    (cases_eq t n)

-- Tests that agree below n have one lowest number.
pub lowest_same : (n : ℕ) (p q : ℕ → Bool) → ((i : ℕ) → i < n → p i ≡ q i) → lowest n p ≡ lowest n q
lowest_same zero p q h = refl
lowest_same (suc n) p q h =
    ap (λ (x : ℕ). cond (ltb x n) x (cond (p n) n (suc n))) (lowest_same n p q (λ i l. h i (omega arith)))
    ∙ ap (λ (b : Bool). cond (ltb (lowest n q) n) (lowest n q) (cond b n (suc n))) (h n (omega arith))

-- One more that counts,
pub count_one : (n : ℕ) (p : ℕ → Bool) → p n ≡ true → count (n + 1) p ≡ count n p + 1
count_one n p e = rw (add-one, add-one) (cond-true (p n) (suc (count n p)) (count n p) e)

-- and one that does not.
pub count_none : (n : ℕ) (p : ℕ → Bool) → p n ≡ false → count (n + 1) p ≡ count n p
count_none n p e = rw add-one (cond-false (p n) (suc (count n p)) (count n p) e)
