-- What `every` and `lowest` say of the numbers below n, and cases by an order or a test.
use Rattle.std.proofs.Common.{◌≡◌, ℕ, zero, suc, ◌<◌, ◌≤◌, Bool, true, false, refl, ⊎_elim, arith}
use Rattle.std.proofs.lemmas.Bool.{and_from, cases_lt, cases_Bool}
use Rattle.std.proofs.lemmas.Bool.Decides.{nat_tests}
use Rattle.mealy.specs.Below.{every, lowest}

-- Two cases, by an order.
pub by_order : {C : Type 0} (a b : ℕ) → (a < b → C) → (b ≤ a → C) → C
by_order a b f g = ⊎_elim f g (cases_lt a b)

-- Two cases, by a test.
pub by_test : {C : Type 0} (b : Bool) → (b ≡ true → C) → (b ≡ false → C) → C
by_test b f g = ⊎_elim f g (cases_Bool b)

-- Where all pass, each does.
pub every_at : (n : ℕ) (p : ℕ → Bool) → every n p ≡ true → (k : ℕ) → k < n → p k ≡ true
every_at zero p e k h = absurd (omega arith)
every_at (suc n) p e k h = let so : every n p ≡ true → k < n → p k ≡ true = λ f. every_at n p f k in grind arith

-- Where each passes, all do.
pub every_from : (n : ℕ) (p : ℕ → Bool) → ((k : ℕ) → k < n → p k ≡ true) → every n p ≡ true
every_from zero p f = refl
every_from (suc n) p f = and_from _ _ (every_from n p (λ k h. f k (omega arith))) (f n (omega arith))

-- r is the lowest number below n that passes, or n where none does.
pub record Lowest (n : ℕ) (p : ℕ → Bool) (r : ℕ) : Type 0 where
  pub within : r ≤ n
  pub passes : r < n → p r ≡ true
  pub first : (k : ℕ) → k < r → p k ≡ false

-- `lowest` is that number.
pub lowest_is : (n : ℕ) (p : ℕ → Bool) → Lowest n p (lowest n p)
lowest_is zero p =
    record { within = omega arith; passes = λ h. absurd (omega arith); first = λ k h. absurd (omega arith) }
lowest_is (suc n) p =
    let so = lowest_is n p in
    record { within = grind (arith, nat_tests); passes = λ h. grind (arith, nat_tests); first = λ k h. grind (arith, nat_tests) }

-- A number that passes is no lower.
pub lowest_le : (n : ℕ) (p : ℕ → Bool) (k : ℕ) → p k ≡ true → lowest n p ≤ k
lowest_le n p k e = let so = lowest_is n p in grind arith
