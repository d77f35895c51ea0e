-- Tests of the numbers below n: whether all pass, which is the lowest that does, how many do.
use Rattle.std.specs.Prelude.{ℕ, zero, suc, Bool, true, cond, ◌&&◌, nat_lt}

-- Whether every number below n passes.
abbrev pub every : ℕ → (ℕ → Bool) → Bool
every zero p = true
every (suc n) p = every n p && p n

-- The lowest number below n that passes, or n where none does.
abbrev pub lowest : ℕ → (ℕ → Bool) → ℕ
lowest zero p = zero
lowest (suc n) p = cond (nat_lt (lowest n p) n) (lowest n p) (cond (p n) n (suc n))

-- How many numbers below n pass.
abbrev pub count : ℕ → (ℕ → Bool) → ℕ
count zero p = zero
count (suc n) p = cond (p n) (suc (count n p)) (count n p)
