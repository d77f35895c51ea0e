-- Numbers by lowest member, one state more.
use Rattle.std.proofs.Common.{◌≡◌, ℕ, ◌+◌, ◌<◌, Bool, true, false, ◌&&◌, eqb, List, length, get_or, set, sym, refl, ap, ◌∙◌, subst, ⊎_elim, arith, below_more}
use Rattle.std.proofs.lemmas.List.{get_or-set_same, get_or-set_other}
use Rattle.std.proofs.lemmas.Bool.{and_from, and_right, cases_eq, both_ways, eq-eqb, ne_eqb}
use Rattle.mealy.specs.Below.{lowest, count}
use Rattle.mealy.proofs.Below.{lowest_is, by_test}
use Rattle.mealy.proofs.Counts.{count_ext}
use Rattle.rounds.specs.Joining.{lead_of, lead_by, number_by}
use Rattle.rounds.proofs.Passes.{lowest_none, lowest_found, lowest_same, count_one, count_none}

-- For a transitive test the lowest that a state joins leads.
module _ (p : ℕ → ℕ → Bool) (trans : (u t s : ℕ) → p u t ≡ true → p t s ≡ true → p u s ≡ true) where
  lead_first : (s t : ℕ) → lead_of p s ≡ t → t < s → lead_of p t ≡ t
  lead_first s t e l =
      let is = lowest_is s (λ u. p u s) in
      let joined : p t s ≡ true = subst (λ (x : ℕ). p x s ≡ true) e (is.passes (omega (arith, e))) in
      lowest_none t (λ u. p u t)
      (λ u h. by_test (p u t)
      (λ y. absurd (both_ways _ (is.first u (omega (arith, e))) (trans u t s y joined))) (λ y. y))

  -- So it is found among those that lead.
  pub lead_found : (leads : ℕ → Bool) (s : ℕ) → ((t : ℕ) → t < s → leads t ≡ lead_by p t)
      → lowest s (λ t. leads t && p t s) ≡ lead_of p s
  lead_found leads s same =
      let is = lowest_is s (λ u. p u s) in
      ⊎_elim
      (λ (l : lead_of p s ≡ s).
      lowest_none s (λ t. leads t && p t s) (λ t h. and_right _ _ (is.first t (omega arith))) ∙ sym l)
      (λ (l : lead_of p s ≡ s → ⊥).
      let low : lead_of p s < s = omega (arith, is.within) in
      lowest_found s (λ t. leads t && p t s) (lead_of p s) low (λ t h. and_right _ _ (is.first t h))
      (and_from _ _ (same (lead_of p s) low ∙ eq-eqb _ _ (lead_first s (lead_of p s) refl low)) (is.passes low)))
      (cases_eq (lead_of p s) s)

  number_joins : (s t : ℕ) → lead_of p s ≡ t → t < s → number_by p s ≡ number_by p t
  number_joins s t e l = ap (λ (x : ℕ). count x (lead_by p)) (e ∙ sym (lead_first s t e l))

  -- One more place of a row, of a state that joins a lower one,
  pub place_joins : (row : List ℕ) (s t : ℕ) → s < length row → lead_of p s ≡ t → t < s
      → ((k : ℕ) → k < s → get_or row k 0 ≡ number_by p k)
      → (k : ℕ) → k < s + 1 → get_or (set row s (get_or row t 0)) k 0 ≡ number_by p k
  place_joins row s t l e b h =
      below_more (λ k. get_or (set row s (get_or row t 0)) k 0 ≡ number_by p k) s
      (λ k q. get_or-set_other row s k (get_or row t 0) 0 (omega arith) ∙ h k q)
      (get_or-set_same row s (get_or row t 0) 0 l ∙ h t b ∙ sym (number_joins s t e b))

module _ (p : ℕ → ℕ → Bool) where
  -- and of one that leads.
  pub place_leads : (row : List ℕ) (s c : ℕ) → s < length row → lead_of p s ≡ s → c ≡ count s (lead_by p)
      → ((k : ℕ) → k < s → get_or row k 0 ≡ number_by p k)
      → (k : ℕ) → k < s + 1 → get_or (set row s c) k 0 ≡ number_by p k
  place_leads row s c l e b h =
      below_more (λ k. get_or (set row s c) k 0 ≡ number_by p k) s
      (λ k q. get_or-set_other row s k c 0 (omega arith) ∙ h k q)
      (get_or-set_same row s c 0 l ∙ b ∙ sym (ap (λ (x : ℕ). count x (lead_by p)) e))

  -- The count of those that lead, after a state that joins a lower one,
  pub count_joins : (s : ℕ) → lead_of p s < s → count (s + 1) (lead_by p) ≡ count s (lead_by p)
  count_joins s l = count_none s (lead_by p) (ne_eqb (lead_of p s) s (λ e. omega arith))

  -- and after one that leads.
  pub count_leads : (s : ℕ) → lead_of p s ≡ s → count (s + 1) (lead_by p) ≡ count s (lead_by p) + 1
  count_leads s e = count_one s (lead_by p) (eq-eqb (lead_of p s) s e)

  -- Which lead, after a state that joins a lower one,
  pub leads_joins : (leads : List Bool) (s : ℕ) → get_or leads s false ≡ false → lead_of p s < s
      → ((k : ℕ) → k < s → get_or leads k false ≡ lead_by p k)
      → (k : ℕ) → k < s + 1 → get_or leads k false ≡ lead_by p k
  leads_joins leads s z l h =
      below_more (λ k. get_or leads k false ≡ lead_by p k) s h (z ∙ sym (ne_eqb (lead_of p s) s (λ e. omega arith)))

  -- and after one that leads.
  pub leads_leads : (leads : List Bool) (s : ℕ) → s < length leads → lead_of p s ≡ s
      → ((k : ℕ) → k < s → get_or leads k false ≡ lead_by p k)
      → (k : ℕ) → k < s + 1 → get_or (set leads s true) k false ≡ lead_by p k
  leads_leads leads s b e h =
      below_more (λ k. get_or (set leads s true) k false ≡ lead_by p k) s
      (λ k q. get_or-set_other leads s k true false (omega arith) ∙ h k q)
      (get_or-set_same leads s true false b ∙ sym (eq-eqb (lead_of p s) s e))

-- Tests that agree below n have one lowest joined state, lead alike and number alike.
module _ (n : ℕ) (p q : ℕ → ℕ → Bool) (same : (s t : ℕ) → s < n → t < n → p s t ≡ q s t) where
  lead_agrees : (k : ℕ) → k < n → lead_of p k ≡ lead_of q k
  lead_agrees k l = lowest_same k (λ t. p t k) (λ t. q t k) (λ t b. same t k (omega arith) l)

  pub leads_agree : (k : ℕ) → k < n → lead_by p k ≡ lead_by q k
  leads_agree k l = ap (λ (x : ℕ). eqb x k) (lead_agrees k l)

  pub number_agrees : (k : ℕ) → k < n → number_by p k ≡ number_by q k
  number_agrees k l =
      let le = lowest_is k (λ t. p t k) in
      count_ext (lead_of p k) (lead_by p) (lead_by q) (λ i b. leads_agree i (omega (arith, le.within)))
      ∙ ap (λ (x : ℕ). count x (lead_by q)) (lead_agrees k l)
