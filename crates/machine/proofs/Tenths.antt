-- A tenth to the nearest whole number, from the quotient and the remainder by ten.
use Rattle.std.proofs.Common.{◌≡◌, ℕ, zero, suc, ◌+◌, ◌*◌, ◌/◌, ◌%◌, ◌≤◌, ◌⊎◌, ℤ, pos, negsuc, ◌+ℤ◌, ◌-ℤ◌, ◌*ℤ◌, neg_ℤ, nat_abs, ◌≤ℤ◌, refl, ap, inl, inr, arith}
use lib.Signed.{quot_z, rem_z}
use Rattle.std.proofs.lemmas.Int.{ints}
use Rattle.std.proofs.lemmas.Bool.{cases_lt}
use Rattle.machine.specs.Wheels.{hundredths, Nearest, Carried}

-- the quotient and what the remainder carries
pub tenth : (x c q : ℤ) → Carried (rem_z x (pos 10)) c → q ≡ quot_z x (pos 10) +ℤ c → q ≡ hundredths x
tenth (pos a) c q k e =
    elim (cases_lt (a % 10) 5) [
      | inl l ↦ let z = k.none (omega (arith, ints)) (omega (arith, ints)) in omega (arith, ints)
      | inr g ↦ let z = k.up (omega (arith, ints)) in omega (arith, ints)
    ]
tenth (negsuc a) c q k e =
    elim (cases_lt (suc a % 10) 5) [
      | inl l ↦ let z = k.none (omega (arith, ints)) (omega (arith, ints)) in omega (arith, ints)
      | inr g ↦ let z = k.down (omega (arith, ints)) in omega (arith, ints)
    ]

-- what is carried is one at most
pub carried_small : (rest c : ℤ) → Carried rest c → (negsuc 0 ≤ℤ c) × (c ≤ℤ pos 1)
carried_small (pos a) c k =
    elim (cases_lt a 5) [
      | inl l ↦ let z = k.none (omega (arith, ints)) (omega (arith, ints)) in (omega (arith, ints), omega (arith, ints))
      | inr g ↦ let z = k.up (omega (arith, ints)) in (omega (arith, ints), omega (arith, ints))
    ]
carried_small (negsuc a) c k =
    elim (cases_lt a 4) [
      | inl l ↦ let z = k.none (omega (arith, ints)) (omega (arith, ints)) in (omega (arith, ints), omega (arith, ints))
      | inr g ↦ let z = k.down (omega (arith, ints)) in (omega (arith, ints), omega (arith, ints))
    ]

-- a number between -n and n has at most the size n
size_le : (d : ℤ) (n : ℕ) → d ≤ℤ pos n → neg_ℤ (pos n) ≤ℤ d → nat_abs d ≤ n
size_le (pos a) n h l = omega (arith, ints)
size_le (negsuc a) n h l = omega (arith, ints)

-- the two numbers of size five
size_five : (d : ℤ) → nat_abs d ≡ 5 → (d ≡ pos 5) ⊎ (d ≡ negsuc 4)
size_five (pos a) h = inl (ap pos h)
size_five (negsuc a) h = let e : a ≡ 4 = omega arith in inr (ap negsuc e)

-- the size of ten times a number below zero
size_neg : (n : ℕ) → nat_abs (neg_ℤ (pos n)) ≡ n
size_neg zero = refl
size_neg (suc n) = refl

size_tens : (q : ℕ) → nat_abs (pos 10 *ℤ neg_ℤ (pos q)) ≡ 10 * q
size_tens zero = refl
size_tens (suc q) = size_neg (10 * suc q)

-- the definition gives a nearest number, away from zero at a half
pub hundredths_nearest : (x q : ℤ) → q ≡ hundredths x → Nearest x q
hundredths_nearest (pos a) q e =
    let d : ℤ = pos 10 *ℤ hundredths (pos a) -ℤ pos a in
    rw e record {
      near = size_le d 5 (omega (arith, ints)) (omega (arith, ints));
      away = λ h. elim (size_five d h) [ inl p ↦ omega (arith, ints) | inr p ↦ omega (arith, ints) ];
    }
hundredths_nearest (negsuc a) q e =
    let d : ℤ = pos 10 *ℤ hundredths (negsuc a) -ℤ negsuc a in
    let z = size_tens ((suc a + 5) / 10) in
    rw e record {
      near = size_le d 5 (omega (arith, ints)) (omega (arith, ints));
      away = λ h. elim (size_five d h) [ inl p ↦ omega (arith, ints) | inr p ↦ omega (arith, ints) ];
    }
