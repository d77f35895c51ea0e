-- What the tests that all forms share let pass.
use Rattle.std.specs.Prelude.{◌≡◌, ℕ, ◌+◌, ◌*◌, ◌<◌, Ok, Err, Result}
use Rattle.std.proofs.Common.{sym, ap, arith}
use Rattle.std.proofs.lemmas.Nat.{mul-add-lt}
use Rattle.std.proofs.lemmas.Bool.Decides.{nat_tests}
use Rattle.std.specs.Result.{result_and}
use Rattle.forms.specs.Entries.{bounds_test}

-- what the bounds let pass lies within them, and what lies within them they let pass
pub bounds_pass : (n k s i : ℕ) → Ok tt ≡ bounds_test n k s i → (s < n) × (i < k)
bounds_pass n k s i h = (grind (arith, nat_tests), grind (arith, nat_tests))

pub in_bounds : (n k s i : ℕ) → s < n → i < k → Ok tt ≡ bounds_test n k s i
in_bounds n k s i h l = grind (arith, nat_tests)

-- the place of the cell, where a state has k places
pub bounds_place : (n k s i : ℕ) → Ok tt ≡ bounds_test n k s i → s * k + i < n * k
bounds_place n k s i h =
    let b = bounds_pass n k s i h in
    omega (arith, mul-add-lt s k i n b.0 b.1)

-- what comes after a test that passed
pub after_test : {T U E : Type 0} (r : Result T E) (u : T) (next : Result U E) → Ok u ≡ r → result_and r next ≡ next
after_test r u next h = ap (λ t. result_and t next) (sym h)

-- a cell that comes after a test is what comes after it
pub test_passed : {T U E : Type 0} (r : Result T E) (next : Result U E) (x : U) → result_and r next ≡ Ok x → next ≡ Ok x
test_passed (Ok u) next x h = h
test_passed (Err e) next x h = let z : ◌≡◌ {A = ℕ} 0 1 = cc in absurd (omega arith)
