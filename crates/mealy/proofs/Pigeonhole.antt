-- No more pigeons than holes, and a function from what each number has.
use Rattle.std.proofs.Common.{◌≡◌, ℕ, zero, suc, ◌<◌, ◌≤◌, cond, eqb, ◌⊎◌, inl, inr, arith}
use Rattle.std.proofs.lemmas.Bool.{cases_lt}
use Rattle.std.proofs.lemmas.Bool.Decides.{nat_tests}

-- f takes the numbers below a to numbers below b, no two to one.
pub record Into (a b : ℕ) (f : ℕ → ℕ) : Type 0 where
  pub below : (s : ℕ) → s < a → f s < b
  pub apart : (s t : ℕ) → s < a → t < a → f s ≡ f t → s ≡ t

-- Where hole h stays empty, who sits in the last hole b moves into h.
abbrev moved : ℕ → ℕ → (ℕ → ℕ) → ℕ → ℕ
moved b h f s = cond (eqb (f s) b) h (f s)

-- Then all sit below b.
moved_into : (a b h : ℕ) (f : ℕ → ℕ) → Into a (suc b) f
    → h < suc b → ((s : ℕ) → s < a → f s ≡ h → ⊥) → Into a b (moved b h f)
moved_into a b h f into l empty =
    record { below = λ s hs. grind (arith, nat_tests); apart = λ s t hs ht e. grind (arith, nat_tests) }

-- Without the last pigeon a, the others sit as before,
fewer : (a b : ℕ) (f : ℕ → ℕ) → Into (suc a) b f → Into a b f
fewer a b f into = record {
  below = λ s h. into.below s (omega arith);
  apart = λ s t hs ht. into.apart s t (omega arith) (omega arith);
}

-- and its hole is empty.
left_empty : (a b : ℕ) (f : ℕ → ℕ) → Into (suc a) b f → (s : ℕ) → s < a → f s ≡ f a → ⊥
left_empty a b f into s h e = omega (arith, into.apart s a (omega arith) (omega arith) e)

-- So they fit into one hole less, and there are no more pigeons than holes.
pub pigeonhole : (a b : ℕ) (f : ℕ → ℕ) → Into a b f → a ≤ b
pigeonhole zero b f into = omega arith
pigeonhole (suc a) zero f into = absurd (omega (arith, into.below a (omega arith)))
pigeonhole (suc a) (suc b) f into =
    let hole = into.below a (omega arith) in
    let others = moved_into a b (f a) f (fewer a (suc b) f into) hole (left_empty a (suc b) f into) in
    let so = pigeonhole a b (moved b (f a) f) others in
    omega arith

module _ (n : ℕ) (P : ℕ → ℕ → Type 0) (has : (c : ℕ) → c < n → (t : ℕ) × P c t) where
  -- What c has where it is below n, and 0 elsewhere.
  abbrev pick : (c : ℕ) → (c < n) ⊎ (n ≤ c) → ℕ
  pick c (inl h) = (has c h).0
  pick c (inr g) = zero

  -- It is what c has.
  pick_has : (c : ℕ) (d : (c < n) ⊎ (n ≤ c)) → c < n → P c (pick c d)
  pick_has c (inl h) l = (has c h).1
  pick_has c (inr g) l = absurd (omega arith)

  -- Where each number below n has something, a function gives it.
  pub choose : (f : ℕ → ℕ) × ((c : ℕ) → c < n → P c (f c))
  choose = (λ c. pick c (cases_lt c n), λ c h. pick_has c (cases_lt c n) h)
