-- What a row and the leaders have after s states, by a test of two states.
use Rattle.std.proofs.Common.{◌≡◌, ℕ, ◌+◌, ◌<◌, ◌≤◌, Bool, true, false, List, length, get_or, set, replicate, sym, refl, ap, ◌∙◌, subst, arith}
use Rattle.std.proofs.lemmas.List.{length-set, get_or-set_other, get_or-replicate, length-replicate}
use Rattle.mealy.specs.Below.{count}
use Rattle.mealy.proofs.Counts.{count_le}
use Rattle.rounds.specs.Joining.{lead_of, lead_by, number_by}
use Rattle.rounds.proofs.Leading.{place_joins, place_leads, count_joins, count_leads, leads_joins, leads_leads}

-- The first s places have their numbers and say who leads, and the rest is as it was.
pub record Filled (p : ℕ → ℕ → Bool) (s : ℕ) (row : List ℕ) (leads : List Bool) (begun : ℕ) : Type 0 where
  pub row_size : length row ≡ 128
  pub leads_size : length leads ≡ 128
  pub counted : begun ≡ count s (lead_by p)
  pub numbers : (k : ℕ) → k < s → get_or row k 0 ≡ number_by p k
  pub blank : (k : ℕ) → s ≤ k → k < 128 → get_or row k 0 ≡ 0
  pub who_leads : (k : ℕ) → k < s → get_or leads k false ≡ lead_by p k
  pub none_leads : (k : ℕ) → s ≤ k → k < 128 → get_or leads k false ≡ false

pub filled_none : (p : ℕ → ℕ → Bool) → Filled p 0 (replicate {A = ℕ} 128 0) (replicate {A = Bool} 128 false) 0
filled_none p = record {
  row_size = length-replicate {A = ℕ} 128 0;
  leads_size = length-replicate {A = Bool} 128 false;
  counted = refl;
  numbers = λ k h. absurd (omega arith);
  blank = λ k a b. get_or-replicate {A = ℕ} 128 k 0 0 b;
  who_leads = λ k h. absurd (omega arith);
  none_leads = λ k a b. get_or-replicate {A = Bool} 128 k false false b;
}

module _ (p : ℕ → ℕ → Bool) (s : ℕ) (row : List ℕ) (leads : List Bool) (begun : ℕ)
    (few : s < 128) (so : Filled p s row leads begun) where
  -- A state that joins t takes its number.
  pub filled_joins : ((u t s : ℕ) → p u t ≡ true → p t s ≡ true → p u s ≡ true)
      → (t : ℕ) → lead_of p s ≡ t → t < s → Filled p (s + 1) (set row s (get_or row t 0)) leads begun
  filled_joins trans t is l = record {
    row_size = length-set row s _ ∙ so.row_size;
    leads_size = so.leads_size;
    counted = so.counted ∙ sym (count_joins p s (omega arith));
    numbers = place_joins p trans row s t (omega (arith, so.row_size)) is l so.numbers;
    blank = λ k a b. get_or-set_other row s k _ 0 (omega arith) ∙ so.blank k (omega arith) b;
    who_leads = leads_joins p leads s (so.none_leads s (omega arith) few) (omega arith) so.who_leads;
    none_leads = λ k a b. so.none_leads k (omega arith) b;
  }

  -- One that joins none begins a block.
  pub filled_leads : lead_of p s ≡ s → Filled p (s + 1) (set row s begun) (set leads s true) (begun + 1)
  filled_leads is = record {
    row_size = length-set row s _ ∙ so.row_size;
    leads_size = length-set leads s _ ∙ so.leads_size;
    counted = ap (λ (x : ℕ). x + 1) so.counted ∙ sym (count_leads p s is);
    numbers = place_leads p row s begun (omega (arith, so.row_size)) is so.counted so.numbers;
    blank = λ k a b. get_or-set_other row s k _ 0 (omega arith) ∙ so.blank k (omega arith) b;
    who_leads = leads_leads p leads s (omega (arith, so.leads_size)) is so.who_leads;
    none_leads = λ k a b. get_or-set_other leads s k true false (omega arith) ∙ so.none_leads k (omega arith) b;
  }

-- No more blocks begin than there are states.
pub filled_few : (p : ℕ → ℕ → Bool) (s : ℕ) (row : List ℕ) (leads : List Bool) (begun : ℕ)
    → Filled p s row leads begun → begun ≤ s
filled_few p s row leads begun so = omega (arith, so.counted, count_le s (lead_by p))

-- The same by other names.
pub filled_as : (p : ℕ → ℕ → Bool) (s : ℕ) (row row' : List ℕ) (leads leads' : List Bool) (begun begun' : ℕ)
    → row' ≡ row → leads' ≡ leads → begun' ≡ begun → Filled p s row leads begun → Filled p s row' leads' begun'
filled_as p s row row' leads leads' begun begun' e f h so =
    subst (λ (x : ℕ). Filled p s row' leads' x) (sym h)
    (subst (λ (x : List Bool). Filled p s row' x begun) (sym f)
    (subst (λ (x : List ℕ). Filled p s x leads begun) (sym e) so))
