-- The machine of the blocks of a settled partition is complete and equivalent, and none such is smaller.
use Rattle.std.proofs.Common.{◌≡◌, ℕ, ◌<◌, ◌≤◌, Bool, eqb, List, [], ◌∷◌, sym, refl, ◌∙◌, subst, arith}
use Rattle.std.proofs.lemmas.Bool.{eqb-true, eq-eqb}
use Rattle.mealy.specs.Mealy.{Mealy, Closed}
use Rattle.mealy.specs.Words.{Word, Equivalent, EquivalentMachines}
use Rattle.mealy.specs.Partitions.{block, block_count, Settled}
use Rattle.mealy.specs.Reduced.{leader_of, reduced}
use Rattle.mealy.specs.SmallestMachine.{BlocksMakeTheSmallest}
use Rattle.mealy.proofs.Below.{lowest_is, lowest_le}
use Rattle.mealy.proofs.Share.{share_parts}
use Rattle.mealy.proofs.Telling.{AnswerAlike, answers_equivalent, equivalent_via}
use Rattle.mealy.proofs.Numbers.{block_share, share_block, block_lt, block_onto}
use Rattle.mealy.proofs.Settled.{settled_share, equivalent_share}
use Rattle.mealy.proofs.Pigeonhole.{Into, pigeonhole, choose}

-- The lowest state of block c is a state, and of block c.
pub leader_of_is : (m : Mealy) (j c : ℕ) → c < block_count m j
    → (leader_of m j c < m.states) × (block m j (leader_of m j c) ≡ c)
leader_of_is m j c h =
    let p : ℕ → Bool = λ s. eqb (block m j s) c in
    let at = block_onto m j c h in
    let low = lowest_le m.states p at.0 (eq-eqb _ _ at.1.1) in
    let within : leader_of m j c < m.states = omega (arith, at.1.0) in
    (within, eqb-true _ _ ((lowest_is m.states p).passes within))

-- The block of a next state is a block.
pub reduced_closed : (m : Mealy) → Closed m → (j : ℕ) → Closed (reduced m j)
reduced_closed m closed j c i hc hi =
    block_lt m j (m.next (leader_of m j c) i) (closed (leader_of m j c) i (leader_of_is m j c hc).0 hi)

module _ (m : Mealy) (closed : Closed m) (j : ℕ) (e : Settled m j) where
  -- Each state answers as its block does.
  block_answers : (s : ℕ) → s < m.states → (w : List ℕ) → Word m.inputs w
      → AnswerAlike m (reduced m j) s (block m j s) w
  block_answers s h [] ok = refl
  block_answers s h (i ∷ w) ok =
      let l : ℕ = leader_of m j (block m j s) in
      let is = leader_of_is m j (block m j s) (block_lt m j s h) in
      let so = settled_share m j e s l h is.0 (block_share m j s l (sym is.1)) in
      let both = share_parts m j s l so i ok.0 in
      let after = share_block m j (m.next s i) (m.next l i) both.1 in
      let tail = block_answers (m.next s i) (closed s i h ok.0) w ok.1 in
      cc (both.0, after, tail)

  -- So it is equivalent to its block.
  pub block_equivalent : (s : ℕ) → s < m.states → Equivalent m (reduced m j) s (block m j s)
  block_equivalent s h = answers_equivalent m (reduced m j) s (block m j s) (block_answers s h)

  -- And the lowest state of block c to c.
  leader_equivalent : (c : ℕ) → c < block_count m j → Equivalent m (reduced m j) (leader_of m j c) c
  leader_equivalent c h =
      let is = leader_of_is m j c h in
      let P : ℕ → Type 0 = λ d. Equivalent m (reduced m j) (leader_of m j c) d in
      subst P is.1 (block_equivalent (leader_of m j c) is.0)

  -- A state has its block, and a block its lowest state.
  pub reduced_is_equivalent : EquivalentMachines m (reduced m j)
  reduced_is_equivalent = record {
    same_inputs = refl;
    forth = λ s h. (block m j s, (block_lt m j s h, block_equivalent s h));
    back = λ c h. (leader_of m j c, ((leader_of_is m j c h).0, leader_equivalent c h));
  }

-- Blocks whose lowest states are equivalent to one state are one block.
leaders_apart : (m o : Mealy) (j c d t u : ℕ) → c < block_count m j → d < block_count m j
    → Equivalent m o (leader_of m j c) t → Equivalent m o (leader_of m j d) u → t ≡ u → c ≡ d
leaders_apart m o j c d t u hc hd f g e =
    let moved = subst (λ x. Equivalent m o (leader_of m j c) x) e f in
    let one = share_block m j _ _ (equivalent_share m j _ _ (equivalent_via m o _ _ u moved g)) in
    sym (leader_of_is m j c hc).1 ∙ one ∙ (leader_of_is m j d hd).1

-- In an equivalent machine each block has a state of its own, so there are as many states or more.
pub reduced_is_smallest : (m o : Mealy) (j : ℕ) → EquivalentMachines m o → block_count m j ≤ o.states
reduced_is_smallest m o j same =
    let P : ℕ → ℕ → Type 0 = λ c t. (t < o.states) × Equivalent m o (leader_of m j c) t in
    let chosen = choose (block_count m j) P (λ c h. same.forth (leader_of m j c) (leader_of_is m j c h).0) in
    let own : ℕ → ℕ = chosen.0 in
    let into : Into (block_count m j) o.states own = record {
      below = λ c h. (chosen.1 c h).0;
      apart = λ c d hc hd. leaders_apart m o j c d (own c) (own d) hc hd (chosen.1 c hc).1 (chosen.1 d hd).1;
    } in
    pigeonhole (block_count m j) o.states own into

-- What is asked of a smallest machine.
pub blocks_make_the_smallest : BlocksMakeTheSmallest
blocks_make_the_smallest m closed j e = record {
  closed = reduced_closed m closed j;
  equivalent = reduced_is_equivalent m closed j e;
  least = λ o _ same. reduced_is_smallest m o j same;
}
