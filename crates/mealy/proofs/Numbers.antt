-- The lowest states of the blocks, and the blocks' numbers.
use Rattle.std.proofs.Common.{◌≡◌, ℕ, ◌<◌, ◌≤◌, true, ap, ◌∙◌, subst, arith}
use Rattle.std.proofs.lemmas.Bool.{eqb-true, eq-eqb}
use Rattle.mealy.specs.Mealy.{Mealy}
use Rattle.mealy.specs.Below.{count}
use Rattle.mealy.specs.Partitions.{share, leader, leads, block, block_count}
use Rattle.mealy.specs.Numbering.{LeaderIsLowest, NumbersByShare, NumbersWithoutGaps, NumbersInOrder}
use Rattle.mealy.proofs.Below.{by_order, lowest_is, lowest_le}
use Rattle.mealy.proofs.Counts.{count_up, count_lt, count_apart, count_onto}
use Rattle.mealy.proofs.Share.{share_refl, share_sym, share_trans}

-- A leader is no higher than the states that it leads.
pub leader_le : (m : Mealy) (j s : ℕ) → leader m j s ≤ s
leader_le m j s = (lowest_is s (λ t. share m j t s)).within

-- A state shares its block with its leader.
pub leader_shares : (m : Mealy) (j s : ℕ) → share m j (leader m j s) s ≡ true
leader_shares m j s =
    let is = lowest_is s (λ t. share m j t s) in
    let own = share_refl m j s in
    grind arith

-- And with no lower state.
pub leader_first : (m : Mealy) (j s t : ℕ) → share m j t s ≡ true → leader m j s ≤ t
leader_first m j s t e = lowest_le s (λ t. share m j t s) t e

-- Both together.
pub leader_is_lowest : LeaderIsLowest
leader_is_lowest m j s = (leader_shares m j s, leader_first m j s)

-- States that share a block have one leader.
pub leader_same : (m : Mealy) (j s t : ℕ) → share m j s t ≡ true → leader m j s ≡ leader m j t
leader_same m j s t e =
    let back = share_sym m j s t e in
    let down = leader_first m j t (leader m j s) (share_trans m j _ _ _ (leader_shares m j s) e) in
    let up = leader_first m j s (leader m j t) (share_trans m j _ _ _ (leader_shares m j t) back) in
    omega arith

-- Who leads is its own leader.
pub leads_itself : (m : Mealy) (j s : ℕ) → leads m j s ≡ true → leader m j s ≡ s
leads_itself m j s e = eqb-true _ _ e

-- A leader leads.
pub leader_leads : (m : Mealy) (j s : ℕ) → leads m j (leader m j s) ≡ true
leader_leads m j s = eq-eqb _ _ (leader_same m j _ _ (leader_shares m j s))

-- States with one number share a block.
pub block_share : (m : Mealy) (j s t : ℕ) → block m j s ≡ block m j t → share m j s t ≡ true
block_share m j s t e =
    let one : leader m j s ≡ leader m j t = count_apart _ _ _ (leader_leads m j s) (leader_leads m j t) e in
    let down : share m j (leader m j t) s ≡ true = rw one at (leader_shares m j s) in
    share_trans m j _ _ _ (share_sym m j _ _ down) (leader_shares m j t)

-- States that share a block have one number.
pub share_block : (m : Mealy) (j s t : ℕ) → share m j s t ≡ true → block m j s ≡ block m j t
share_block m j s t e = ap (λ l. count l (leads m j)) (leader_same m j s t e)

-- Both ways.
pub numbers_by_share : NumbersByShare
numbers_by_share m j s t = (block_share m j s t, share_block m j s t)

-- The number of a state's block is below the count of blocks.
pub block_lt : (m : Mealy) (j s : ℕ) → s < m.states → block m j s < block_count m j
block_lt m j s h = count_lt (leader m j s) m.states _ (leader_leads m j s) (omega (arith, leader_le m j s))

-- Each number below the count of blocks is a state's.
pub block_onto : (m : Mealy) (j c : ℕ) → c < block_count m j → (s : ℕ) × ((s < m.states) × (block m j s ≡ c))
block_onto m j c h =
    let at = count_onto m.states (leads m j) c h in
    (at.0, (at.1, ap (λ l. count l (leads m j)) (leads_itself m j at.0 at.2) ∙ at.3))

-- Both ways.
pub numbers_without_gaps : NumbersWithoutGaps
numbers_without_gaps m j c = (
  block_onto m j c,
  λ has. subst (λ b. b < block_count m j) has.1.1 (block_lt m j has.0 has.1.0),
)

-- Above a leader the count of leaders is higher, and a count does not fall.
pub numbers_in_order : NumbersInOrder
numbers_in_order m j s t = (
  count_lt (leader m j s) (leader m j t) (leads m j) (leader_leads m j s),
  λ lower.
      by_order (leader m j s) (leader m j t) (λ l. l)
      (λ g. absurd (omega (arith, count_up (leader m j t) (leader m j s) (leads m j) g))),
)
