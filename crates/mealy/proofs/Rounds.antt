-- Each round splits blocks or changes nothing, so fewer rounds split than there are states.
use Rattle.std.proofs.Common.{◌≡◌, ℕ, zero, suc, ◌<◌, ◌≤◌, true, ◌⊎◌, map, sym, refl, ap, ◌∙◌, inl, inr, arith}
use Rattle.std.specs.List.{range_with_len}
use Rattle.std.proofs.lemmas.List.FromFn.{get_or-map-range_with_len, length-map-range_with_len, fill_by_all}
use Rattle.std.proofs.lemmas.Bool.{eq-eqb}
use Rattle.std.proofs.lemmas.Bool.Decides.{nat_tests}
use Rattle.mealy.specs.Mealy.{Mealy}
use Rattle.mealy.specs.Below.{count}
use Rattle.mealy.specs.Partitions.{share, leader, leads, block, block_count, Settled}
use Rattle.mealy.specs.Settling.{SplitsGrow, OneBlockFirst, BlocksBounded, SettlesInTime}
use Rattle.mealy.proofs.Below.{by_order, lowest_le}
use Rattle.mealy.proofs.Counts.{count_le, count_ext, count_settled, Within}
use Rattle.mealy.proofs.Share.{share_down}
use Rattle.mealy.proofs.Numbers.{leader_le, leader_shares, leader_first, leader_same, leads_itself, leader_leads}

-- Who leads goes on leading.
leads_on : (m : Mealy) (j s : ℕ) → leads m j s ≡ true → leads m (suc j) s ≡ true
leads_on m j s e =
    let up = leader_first m j s (leader m (suc j) s) (share_down m j _ _ (leader_shares m (suc j) s)) in
    eq-eqb _ _ (omega (arith, leads_itself m j s e, leader_le m (suc j) s))

-- Functions that agree below n make one list.
same_lists : (f g : ℕ → ℕ) (n : ℕ) → ((k : ℕ) → k < n → f k ≡ g k) → map f (range_with_len 0 n) ≡ map g (range_with_len 0 n)
same_lists f g n e =
    fill_by_all g (map f (range_with_len 0 n)) n 0 (length-map-range_with_len f 0 n)
    (λ k h. get_or-map-range_with_len f 0 n k k 0 h (omega arith) ∙ e k h)

-- No new state leads in P (j + 1): then the round changes nothing.
module _ (m : Mealy) (j : ℕ) (back : Within m.states (leads m (suc j)) (leads m j)) where
  -- The same states lead,
  leads_agree : (s : ℕ) → s < m.states → leads m (suc j) s ≡ leads m j s
  leads_agree s h = let so = back s h in let on = leads_on m j s in grind arith

  -- so there are as many blocks,
  pub as_many_blocks : block_count m (suc j) ≡ block_count m j
  as_many_blocks = count_ext m.states (leads m (suc j)) (leads m j) leads_agree

  -- each state has the leader that it had,
  leader_agrees : (s : ℕ) → s < m.states → leader m (suc j) s ≡ leader m j s
  leader_agrees s h =
      let l = leader m (suc j) s in
      let itself = leads_itself m j l (back l (omega (arith, leader_le m (suc j) s)) (leader_leads m (suc j) s)) in
      sym itself ∙ leader_same m j l s (share_down m j _ _ (leader_shares m (suc j) s))

  -- and each block its number.
  block_agrees : (s : ℕ) → s < m.states → block m (suc j) s ≡ block m j s
  block_agrees s h =
      let low = leader_le m j s in
      let below = count_ext (leader m j s) (leads m (suc j)) (leads m j) (λ k l. leads_agree k (omega arith)) in
      ap (λ l. count l (leads m (suc j))) (leader_agrees s h) ∙ below

  -- The two lists are one.
  pub settled_by_leaders : Settled m j
  settled_by_leaders = same_lists (block m (suc j)) (block m j) m.states block_agrees

-- So it does where there are no more blocks.
pub settled_from : (m : Mealy) (j : ℕ) → block_count m (suc j) ≤ block_count m j → Settled m j
settled_from m j few =
    settled_by_leaders m j (count_settled m.states (leads m j) (leads m (suc j)) (λ s h. leads_on m j s) few)

-- A round that changes the partition makes more blocks.
pub splits_grow : SplitsGrow
splits_grow m j splits =
    by_order (block_count m j) (block_count m (suc j)) (λ l. l) (λ g. absurd (splits (settled_from m j g)))

-- Each block has a leader of its own.
pub blocks_bounded : BlocksBounded
blocks_bounded m j = count_le m.states (leads m j)

-- In P 0 state 0 leads all.
first_leader : (m : Mealy) (s : ℕ) → leader m 0 s ≡ 0
first_leader m s = omega (arith, lowest_le s (λ t. share m 0 t s) 0 refl)

-- So one state leads.
count_first : (m : Mealy) (n : ℕ) → 1 ≤ n → count n (leads m 0) ≡ 1
count_first m zero h = absurd (omega arith)
count_first m (suc n) h =
    let so : 1 ≤ n → count n (leads m 0) ≡ 1 = count_first m n in
    let none = count_le n (leads m 0) in
    let here = first_leader m n in
    grind (arith, nat_tests)

-- In particular of all the machine's states.
pub one_block_first : OneBlockFirst
one_block_first m h = count_first m m.states h

-- Of the first j rounds one changes nothing, or each made a block more.
settled_or_many : (m : Mealy) → 1 ≤ m.states → (j : ℕ) → ((i : ℕ) × ((i < j) × Settled m i)) ⊎ (j < block_count m j)
settled_or_many m h zero = inr (omega (arith, one_block_first m h))
settled_or_many m h (suc j) =
    elim (settled_or_many m h j) [
      | inl so ↦ inl (so.0, (omega arith, so.1.1))
      | inr many ↦ by_order (block_count m j) (block_count m (suc j))
          (λ l. inr (omega arith))
          (λ g. inl (j, (omega arith, settled_from m j g)))
    ]

-- So one of as many rounds as there are states changes nothing.
pub some_round_settles : (m : Mealy) → 1 ≤ m.states → (i : ℕ) × ((i < m.states) × Settled m i)
some_round_settles m h =
    elim (settled_or_many m h m.states) [
      | inl so ↦ so
      | inr many ↦ absurd (omega (arith, blocks_bounded m m.states))
    ]

-- So where each of j rounds changed something, j is below the count of blocks.
pub settles_in_time : SettlesInTime
settles_in_time m h j splits =
    elim (settled_or_many m h j) [
      | inl so ↦ absurd (splits so.0 so.1.0 so.1.1)
      | inr many ↦ omega (arith, blocks_bounded m j)
    ]
