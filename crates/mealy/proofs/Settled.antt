-- A settled partition stays, and sharing one of its blocks is equivalence.
use Rattle.std.proofs.Common.{◌≡◌, ℕ, zero, suc, ◌-◌, ◌<◌, ◌≤◌, true, List, [], ◌∷◌, get_or, sym, refl, ap, ◌∙◌, subst, arith}
use Rattle.std.proofs.lemmas.List.FromFn.{get_or-map-range_with_len}
use Rattle.std.proofs.lemmas.Bool.{eq-eqb}
use Rattle.mealy.specs.Mealy.{Mealy, Closed}
use Rattle.mealy.specs.Words.{Word, Equivalent}
use Rattle.mealy.specs.Partitions.{share, leader, leads, block, blocks, block_count, Settled}
use Rattle.mealy.specs.Settling.{SettledByCount, SettlesByItsSize, SettledStays, SettledIsEquivalence}
use Rattle.mealy.proofs.Below.{by_order}
use Rattle.mealy.proofs.Counts.{Within}
use Rattle.mealy.proofs.Share.{share_parts, share_from}
use Rattle.mealy.proofs.Telling.{AnswerAlike, answers_equivalent}
use Rattle.mealy.proofs.Words.{alike_share}
use Rattle.mealy.proofs.Numbers.{leader_le, leader_shares, leader_first, leads_itself, block_share, share_block}
use Rattle.mealy.proofs.Rounds.{as_many_blocks, settled_by_leaders, settled_from, some_round_settles}

-- States that share a block of P j share one of P (j + 1).
abbrev pub GoesOn : Mealy → ℕ → Type 0
GoesOn m j = (s t : ℕ) → s < m.states → t < m.states → share m j s t ≡ true → share m (suc j) s t ≡ true

-- Then no new state leads.
leads_back : (m : Mealy) (j : ℕ) → GoesOn m j → Within m.states (leads m (suc j)) (leads m j)
leads_back m j on s h lead =
    let low = leader_le m j s in
    let up = leader_first m (suc j) s (leader m j s) (on (leader m j s) s (omega arith) h (leader_shares m j s)) in
    eq-eqb _ _ (omega (arith, leads_itself m (suc j) s lead))

-- Where P j is settled, each state has the same number in P (j + 1).
settled_at_lem : (m : Mealy) (j : ℕ) → Settled m j → (s : ℕ) → s < m.states → block m (suc j) s ≡ block m j s
settled_at_lem m j e s h =
    sym (get_or-map-range_with_len (block m (suc j)) 0 m.states s s 0 h (omega arith))
    ∙ ap (λ l. get_or l s 0) e
    ∙ get_or-map-range_with_len (block m j) 0 m.states s s 0 h (omega arith)

-- So sharing a block goes on.
pub settled_share : (m : Mealy) (j : ℕ) → Settled m j → GoesOn m j
settled_share m j e s t hs ht so =
    block_share m (suc j) s t (settled_at_lem m j e s hs ∙ share_block m j s t so ∙ sym (settled_at_lem m j e t ht))

-- And the next partition has as many blocks.
pub settled_count : (m : Mealy) (j : ℕ) → Settled m j → block_count m (suc j) ≡ block_count m j
settled_count m j e = as_many_blocks m j (leads_back m j (settled_share m j e))

-- A round changes nothing exactly where it makes no more blocks.
pub settled_by_count : SettledByCount
settled_by_count m j = (settled_count m j, λ e. settled_from m j (omega arith))

-- Next states share on too, so sharing a block goes on in the round after.
goes_on_next : (m : Mealy) → Closed m → (j : ℕ) → Settled m j → GoesOn m (suc j)
goes_on_next m closed j e s t hs ht so =
    share_from m (suc j) s t
    (λ i h.
    let both = share_parts m j s t so i h in
    (both.0, settled_share m j e _ _ (closed s i hs h) (closed t i ht h) both.1))

-- And that round changes nothing either.
settled_next : (m : Mealy) → Closed m → (j : ℕ) → Settled m j → Settled m (suc j)
settled_next m closed j e = settled_by_leaders m (suc j) (leads_back m (suc j) (goes_on_next m closed j e))

module _ (m : Mealy) (closed : Closed m) (j : ℕ) (e : Settled m j) where
  -- P i is settled and the same.
  abbrev Stays : ℕ → Type 0
  Stays i = Settled m i × (blocks m i ≡ blocks m j)

  -- Nor does any later round change anything.
  settled_later : (i : ℕ) → j ≤ i → Stays i
  settled_later zero h = let so : j ≡ zero = omega arith in subst Stays so (e, refl)
  settled_later (suc i) h =
      by_order i j
      (λ l. let so : j ≡ suc i = omega arith in subst Stays so (e, refl))
      (λ g. let so = settled_later i g in (settled_next m closed i so.0, so.0 ∙ so.1))

  -- States that share a block of a settled partition answer alike to every word.
  settled_answers : (s t : ℕ) → s < m.states → t < m.states → share m j s t ≡ true
      → (w : List ℕ) → Word m.inputs w → AnswerAlike m m s t w
  settled_answers s t hs ht so [] ok = refl
  settled_answers s t hs ht so (i ∷ w) ok =
      let both = share_parts m j s t (settled_share m j e s t hs ht so) i ok.0 in
      let ls = closed s i hs ok.0 in
      let lt = closed t i ht ok.0 in
      let tail = settled_answers (m.next s i) (m.next t i) ls lt both.1 w ok.1 in
      cc

  -- So they are equivalent.
  pub settled_alike : (s t : ℕ) → s < m.states → t < m.states → share m j s t ≡ true → Equivalent m m s t
  settled_alike s t hs ht so = answers_equivalent m m s t (settled_answers s t hs ht so)

-- So every later partition is the same.
pub settled_stays : SettledStays
settled_stays m closed j e i h = (settled_later m closed j e i h).1

-- Some round before that of its size settles, and it stays so.
pub settles_by_its_size : SettlesByItsSize
settles_by_its_size m closed h =
    let so = some_round_settles m h in
    (settled_later m closed so.0 so.1.1 (m.states - 1) (omega (arith, so.1.0))).0

-- Equivalent states share a block of every partition.
pub equivalent_share : (m : Mealy) (j s t : ℕ) → Equivalent m m s t → share m j s t ≡ true
equivalent_share m j s t f = alike_share m j s t (λ w short. f w)

-- Both ways.
pub settled_is_equivalence : SettledIsEquivalence
settled_is_equivalence m closed j e s t hs ht = (settled_alike m closed j e s t hs ht, equivalent_share m j s t)
