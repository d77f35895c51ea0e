-- A settled sheet of a sound machine: where it stands, the lowest states of its classes, and that it has a word for each two.
use Rattle.std.proofs.Common.{◌≡◌, ℕ, suc, ◌+◌, ◌-◌, ◌*◌, ◌<◌, ◌≤◌, Bool, true, false, not, ◌&&◌, cond, eqb, ltb, leb, List, length, get_or, ℤ, is_ok, Ok, Some, None, sym, ap, ◌∙◌, arith}
use Rattle.std.proofs.lemmas.List.FromFn.{get_or-map-range_with_len, length-map-range_with_len}
use Rattle.std.proofs.lemmas.List.Sums.{position_or_len_is}
use Rattle.std.proofs.lemmas.Bool.{cond-true, cond-false, and_from, eq-eqb, lt-ltb, le-ltb, le-leb}
use Rattle.std.specs.List.{position, position_or_len}
use Rattle.machine.specs.Meaning.{Meaning}
use Rattle.machine.specs.Theory.{mealy_of, sound_by}
use Rattle.machine.specs.declared.Machine as machines
use Rattle.machine.specs.declared.outputs.Output as outputs
use Rattle.mealy.specs.FirstWord.{word_of, Shortest}
use Rattle.mealy.specs.Mealy.{Mealy}
use Rattle.mealy.specs.Partitions.{share, block, blocks, block_count, parted}
use Rattle.mealy.specs.Reduced.{leader_of}
use Rattle.mealy.proofs.Below.{by_test, lowest_is, lowest_le}
use Rattle.mealy.proofs.Numbers.{share_block}
use Rattle.mealy.proofs.Parting.{first_word_is_shortest}
use Rattle.mealy.proofs.Reduced.{leader_of_is}
use Rattle.mealy.proofs.Rounds.{blocks_bounded}
use Rattle.sheet.specs.Replies.{splits_in_all, settle_reply, word_reply}
use Rattle.sheet.specs.Stage.{Stage, stage_at, stage_settled}
use Rattle.sheet.specs.Tables.{cell_count}
use Rattle.sheet.specs.declared.answers.Settling.{Settling}
use Rattle.reductions.specs.Aparts.{Told}
use Rattle.reductions.specs.Reductions.{leaders_of, settled_stage, settling_of}

-- Settling a fresh sheet.
module _ {O F : Type 0} (key : O → List ℤ) (m : Meaning O F) (so : sound_by m ≡ true) where
  pub settles : settle_reply (stage_at key m 0 false) ≡ Ok (settling_of (settled_stage key m))
  settles =
      let last : ℕ = splits_in_all (mealy_of key m) in
      cond-true (sound_by m) _ _ so
      ∙ ap (λ (n : ℕ). Ok (record { rounds = n; count = block_count (mealy_of key m) last })) (omega arith)

  pub stage_settled_lem : (a : Settling) → Ok a ≡ settle_reply (stage_at key m 0 false)
      → (a ≡ settling_of (settled_stage key m)) × (stage_settled (Ok a) (stage_at key m 0 false) ≡ settled_stage key m)
  stage_settled_lem a e =
      let same = e ∙ settles in
      let is : a ≡ settling_of (settled_stage key m) = cc in
      let rounds : 0 + (a.rounds - 1) ≡ splits_in_all (mealy_of key m) = omega (arith, ap (λ (x : Settling). x.rounds) is) in
      (is, ap (λ (n : ℕ). stage_at key m n true) rounds)

-- The lowest states of the blocks, by a row of their numbers.
module _ (m : Mealy) (r : ℕ) (row : List ℕ) (is : row ≡ blocks m r) where
  pub row_length : length row ≡ m.states
  row_length = ap length is ∙ length-map-range_with_len (block m r) 0 m.states

  number_at : (s : ℕ) → s < m.states → get_or row s 0 ≡ block m r s
  number_at s h = ap (λ (x : List ℕ). get_or x s 0) is ∙ get_or-map-range_with_len (block m r) 0 m.states s s 0 h (omega arith)

  -- the first place of a class is its lowest state
  pub first_is : (c : ℕ) → c < block_count m r → position (λ x. eqb x c) row ≡ Some (leader_of m r c)
  first_is c h =
      let s : ℕ = leader_of m r c in
      let low = leader_of_is m r c h in
      let at : position_or_len (λ x. eqb x c) row ≡ s =
      position_or_len_is (λ x. eqb x c) row s 0 (omega (arith, row_length))
      (λ k l. ap (λ (x : ℕ). eqb x c) (number_at k (omega arith)) ∙ (lowest_is m.states (λ u. eqb (block m r u) c)).first k l)
      (λ l. eq-eqb _ _ (number_at s low.0 ∙ low.1)) in
      ap (λ (n : ℕ). cond (ltb n (length row)) (Some n) None) at ∙ cond-true _ _ _ (lt-ltb s (length row) (omega (arith, row_length)))

  pub first_at : (c : ℕ) → c < block_count m r → (s : ℕ) → Some s ≡ position (λ x. eqb x c) row → s ≡ leader_of m r c
  first_at c h s e = let both = e ∙ first_is c h in cc

-- Two classes have a word.
module _ (t : Stage) where
  abbrev m : Mealy
  m = t.machine

  abbrev r : ℕ
  r = t.rounds

  leader_read : (c : ℕ) → c < block_count m r → get_or (leaders_of t) c 0 ≡ leader_of m r c
  leader_read c h = get_or-map-range_with_len (leader_of m r) 0 (block_count m r) c c 0 h (omega arith)

  leaders_part : (a b : ℕ) → a < b → b < block_count m r → parted m r (leader_of m r a) (leader_of m r b) ≤ r
  leaders_part a b h l =
      let la = leader_of_is m r a (omega arith) in
      let lb = leader_of_is m r b l in
      lowest_le (suc r) (λ i. not (share m i (leader_of m r a) (leader_of m r b))) r
      (by_test (share m r (leader_of m r a) (leader_of m r b))
      (λ e. absurd (omega (arith, la.1, lb.1, share_block m r (leader_of m r a) (leader_of m r b) e)))
      (λ e. ap not e))

  word_heard : t.sound ≡ true → r < 128 → (s u : ℕ) → s < m.states → u < m.states → parted m r s u ≤ r
      → word_reply t s u 128 ≡ Ok (parted m r s u)
  word_heard so few s u ls lu early =
      let j : ℕ = parted m r s u in
      cond-true t.sound _ _ so
      ∙ cond-true (ltb s m.states && ltb u m.states) _ _ (and_from _ _ (lt-ltb s _ ls) (lt-ltb u _ lu))
      ∙ cond-true (leb j r) _ _ (le-leb j r early)
      ∙ cond-false (ltb 128 j) _ _ (le-ltb 128 j (omega arith))

  pub leaders_length : length (leaders_of t) ≡ block_count m r
  leaders_length = length-map-range_with_len (leader_of m r) 0 (block_count m r)

  pub cells_are : (n k : ℕ) → n ≡ block_count m r → k ≡ m.inputs → n * k ≡ cell_count t
  cells_are n k p q = ap (λ (x : ℕ). x * k) p ∙ ap (λ (x : ℕ). block_count m r * x) q

  pub leaders_few : m.states ≤ 128 → (leaders : List ℕ) → leaders ≡ leaders_of t → length leaders ≤ 128
  leaders_few few leaders is = omega (arith, ap length is, leaders_length, blocks_bounded m r)

  -- A sound sheet tells the lowest states of each two classes apart,
  pub leaders_told : t.sound ≡ true → r < 128 → Told t (leaders_of t)
  leaders_told so few a b h l =
      let low : b < block_count m r = omega (arith, leaders_length) in
      rw (leader_read a (omega arith), leader_read b low)
      (ap is_ok (word_heard so few (leader_of m r a) (leader_of m r b) (leader_of_is m r a (omega arith)).0 (leader_of_is m r b low).0 (leaders_part a b h low)))

  -- and their word is the first of the shortest.
  pub leaders_shortest : (a b : ℕ) → a < b → b < block_count m r
      → Shortest m (get_or (leaders_of t) a 0) (get_or (leaders_of t) b 0) (word_of m r (get_or (leaders_of t) a 0) (get_or (leaders_of t) b 0))
  leaders_shortest a b h l =
      rw (leader_read a (omega arith), leader_read b l) (first_word_is_shortest m r (leader_of m r a) (leader_of m r b) (leaders_part a b h l)).1

-- A machine whose sheet stands where a sound machine's settles, after r rounds.
module _ {M O F : Type 0} (g : machines.Ghosts M O F) (o : outputs.Ghosts O) (before after : M) (r : ℕ) (b : Bool)
    (same : after ≡ before) (e : stage_at o.key (g.means after) r b ≡ settled_stage o.key (g.means before)) where
  pub last_round : r ≡ splits_in_all (mealy_of o.key (g.means after))
  last_round = ap (λ (t : Stage). t.rounds) e ∙ ap (λ (x : M). splits_in_all (mealy_of o.key (g.means x))) (sym same)

  pub has_settled : b ≡ true
  has_settled = ap (λ (t : Stage). t.settled) e

  pub rounds_taken : (a : Settling) → a ≡ settling_of (settled_stage o.key (g.means before)) → a.rounds ≡ r + 1
  rounds_taken a is = ap (λ (x : Settling). x.rounds) is ∙ ap (λ (t : Stage). t.rounds + 1) (sym e)

  pub classes_left : (a : Settling) → a ≡ settling_of (settled_stage o.key (g.means before)) → a.count ≡ block_count (mealy_of o.key (g.means after)) r
  classes_left a is = ap (λ (x : Settling). x.count) is ∙ ap (λ (t : Stage). block_count t.machine t.rounds) (sym e)

-- The same of what is kept of it.
module _ {O F : Type 0} (key : O → List ℤ) (m : Meaning O F) (r : ℕ) (b : Bool) (last : r ≡ splits_in_all (mealy_of key m)) (done : b ≡ true) where
  pub stands : stage_at key m r b ≡ settled_stage key m
  stands = ap (λ (n : ℕ). stage_at key m n b) last ∙ ap (stage_at key m (splits_in_all (mealy_of key m))) done

  pub settling_is : (a : Settling) → a.rounds ≡ r + 1 → a.count ≡ block_count (mealy_of key m) r → a ≡ settling_of (settled_stage key m)
  settling_is a p q =
      ap (λ (n : ℕ). record { rounds = n; count = a.count }) p
      ∙ ap (λ (n : ℕ). record { rounds = r + 1; count = n }) q
      ∙ ap (settling_of) stands
