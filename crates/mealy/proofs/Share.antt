-- Sharing a block: what it says of keys and next states, that it is an equivalence, and that rounds only split.
use Rattle.std.proofs.Common.{◌≡◌, ℕ, zero, suc, ◌<◌, true, sym, refl, ◌∙◌}
use Rattle.std.proofs.lemmas.Bool.{and_parts, and_from}
use Rattle.mealy.specs.Mealy.{Mealy}
use Rattle.mealy.specs.Partitions.{share}
use Rattle.mealy.specs.Settling.{RoundsRefine}
use Rattle.mealy.proofs.Below.{every_at, every_from}
use Rattle.mealy.proofs.Keys.{same_key_true, key_same}

-- At input i, the keys are equal and the next states share a block of P j.
abbrev pub Joined : Mealy → ℕ → ℕ → ℕ → ℕ → Type 0
Joined m j s t i = (m.key s i ≡ m.key t i) × (share m j (m.next s i) (m.next t i) ≡ true)

-- States that are joined at every input share a block of P (j + 1).
pub share_from : (m : Mealy) (j s t : ℕ) → ((i : ℕ) → i < m.inputs → Joined m j s t i)
    → share m (suc j) s t ≡ true
share_from m j s t f = every_from _ _ (λ i h. and_from _ _ (key_same _ _ (f i h).0) (f i h).1)

-- States that share a block of P (j + 1) are joined at every input.
pub share_parts : (m : Mealy) (j s t : ℕ) → share m (suc j) s t ≡ true
    → (i : ℕ) → i < m.inputs → Joined m j s t i
share_parts m j s t e i h = let both = and_parts _ _ (every_at _ _ e i h) in (same_key_true _ _ both.0, both.1)

-- Sharing a block is an equivalence: a state shares its own,
pub share_refl : (m : Mealy) (j s : ℕ) → share m j s s ≡ true
share_refl m zero s = refl
share_refl m (suc j) s = share_from m j s s (λ i h. (refl, share_refl m j _))

-- two states share each other's,
pub share_sym : (m : Mealy) (j s t : ℕ) → share m j s t ≡ true → share m j t s ≡ true
share_sym m zero s t e = refl
share_sym m (suc j) s t e =
    share_from m j t s (λ i h. let both = share_parts m j s t e i h in (sym both.0, share_sym m j _ _ both.1))

-- and those that share one with a third share it.
pub share_trans : (m : Mealy) (j s t u : ℕ) → share m j s t ≡ true → share m j t u ≡ true → share m j s u ≡ true
share_trans m zero s t u e f = refl
share_trans m (suc j) s t u e f =
    share_from m j s u
    (λ i h.
    let a = share_parts m j s t e i h in
    let b = share_parts m j t u f i h in
    (a.0 ∙ b.0, share_trans m j _ _ _ a.1 b.1))

-- A block of P (j + 1) lies in a block of P j.
pub share_down : RoundsRefine
share_down m zero s t e = refl
share_down m (suc j) s t e =
    share_from m j s t (λ i h. let both = share_parts m (suc j) s t e i h in (both.0, share_down m j _ _ both.1))
