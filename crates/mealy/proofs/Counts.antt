-- How many numbers below n pass a test.
use Rattle.std.proofs.Common.{◌≡◌, ℕ, zero, suc, ◌<◌, ◌≤◌, Bool, true, refl, arith}
use Rattle.mealy.specs.Below.{count}
use Rattle.mealy.proofs.Below.{by_order}

-- No more pass than there are.
pub count_le : (n : ℕ) (p : ℕ → Bool) → count n p ≤ n
count_le zero p = omega arith
count_le (suc n) p = let so = count_le n p in grind arith

-- A count does not fall.
pub count_up : (a b : ℕ) (p : ℕ → Bool) → a ≤ b → count a p ≤ count b p
count_up a zero p h = let e : a ≡ zero = omega arith in rw e (omega arith)
count_up a (suc b) p h =
    by_order a (suc b)
    (λ l. let so = count_up a b p (omega arith) in grind arith)
    (λ g. let e : a ≡ suc b = omega arith in rw e (omega arith))

-- Above a number that passes the count is higher.
pub count_lt : (a b : ℕ) (p : ℕ → Bool) → p a ≡ true → a < b → count a p < count b p
count_lt a b p e h = let up = count_up (suc a) b p h in grind arith

-- So two numbers that pass have different counts below them.
pub count_apart : (a b : ℕ) (p : ℕ → Bool) → p a ≡ true → p b ≡ true → count a p ≡ count b p → a ≡ b
count_apart a b p e f same = grind (arith, count_lt a b p e, count_lt b a p f)

-- Each number below the count is the count below a number that passes.
pub count_onto : (n : ℕ) (p : ℕ → Bool) (c : ℕ) → c < count n p
    → (s : ℕ) × (s < n) × (p s ≡ true) × (count s p ≡ c)
count_onto zero p c h = absurd (omega arith)
count_onto (suc n) p c h =
    by_order c (count n p)
    (λ l. let so = count_onto n p c l in (so.0, omega arith, so.2, so.3))
    (λ g. (n, omega arith, grind arith, grind arith))

-- Tests that agree count alike.
pub count_ext : (n : ℕ) (p q : ℕ → Bool) → ((k : ℕ) → k < n → p k ≡ q k) → count n p ≡ count n q
count_ext zero p q f = refl
count_ext (suc n) p q f =
    let so = count_ext n p q (λ k h. f k (omega arith)) in
    let here = f n (omega arith) in
    cc

-- All that pass p pass q.
abbrev pub Within : ℕ → (ℕ → Bool) → (ℕ → Bool) → Type 0
Within n p q = (k : ℕ) → k < n → p k ≡ true → q k ≡ true

-- Then q counts as many or more.
pub count_grows : (n : ℕ) (p q : ℕ → Bool) → Within n p q → count n p ≤ count n q
count_grows zero p q f = omega arith
count_grows (suc n) p q f =
    let so = count_grows n p q (λ k h. f k (omega arith)) in
    let here = f n (omega arith) in
    grind arith

-- And no more only if all that pass q pass p.
pub count_settled : (n : ℕ) (p q : ℕ → Bool) → Within n p q → count n q ≤ count n p → Within n q p
count_settled zero p q f few k h e = absurd (omega arith)
count_settled (suc n) p q f few k h e =
    let below : Within n p q = λ k h. f k (omega arith) in
    let so = count_grows n p q below in
    let here = f n (omega arith) in
    let more : count n q ≤ count n p → k < n → p k ≡ true = λ le l. count_settled n p q below le k l e in
    grind arith
