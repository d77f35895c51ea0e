-- What a sheet keeps: fresh, after a round that settled, and after one that split; and what that says of its machine.
use Rattle.std.proofs.Common.{◌≡◌, ℕ, suc, ◌+◌, ◌*◌, ◌<◌, ◌≤◌, Bool, true, false, not, eqb, List, [], get_or, take, set, length, replicate, ltb, leb, cond, Some, None, ℤ, sym, refl, ap, ◌∙◌, subst, ⊎_elim, add-one, arith}
use Rattle.std.specs.List.{position, position_or_len}
use Rattle.std.proofs.lemmas.Bool.{true≢false, cases_eq, cases_Bool, cond-true, cond-false, not-true, lt-ltb, le-ltb, leb-true, leb-false}
use Rattle.std.proofs.lemmas.List.{length-take-le, get_or-take}
use Rattle.std.proofs.lemmas.List.FromFn.{length-map-range_with_len}
use Rattle.std.proofs.lemmas.List.Sums.{position_or_len_is}
use Rattle.machine.specs.Meaning as meaning
use Rattle.machine.specs.Meaning.{Meaning, Sizes}
use Rattle.machine.specs.Theory.{mealy_of, sound_by}
use Rattle.machine.specs.declared.Machine as machines
use Rattle.machine.specs.declared.faults.Fault as faults
use Rattle.machine.specs.declared.outputs.Output as outputs
use Rattle.machine.proofs.Theory.{few_states, some_state, sound_fits, sound_closed}
use Rattle.mealy.specs.Mealy.{Mealy, Closed}
use Rattle.mealy.specs.Partitions.{block, block_count, share, parted, Settled}
use Rattle.mealy.proofs.Below.{by_test, lowest_is}
use Rattle.mealy.proofs.Rounds.{one_block_first, settled_from}
use Rattle.mealy.proofs.Settled.{settled_count}
use Rattle.rounds.specs.Rows.{row_of, Numbered, Refines}
use Rattle.rounds.proofs.Refining.{numbers_tell}
use Rattle.rounds.proofs.Rows.{row_numbered}
use Rattle.sheet.specs.declared.Sheet.{Sheet}
use Rattle.sheet.specs.Kept.{KeptAt, Splits, row_at, rows_of}
use Rattle.sheet.specs.Replies.{parted_in}
use Rattle.sheet.specs.Stage.{Stage, stage_at}
use Rattle.sheet.specs.Standing.{stage_of}
use Rattle.sheet.specs.Steps.{Blocks}
use Rattle.sheet.proofs.Rows.{row_is, rows_fresh, rows_more}

-- One more round splits.
pub splits_more : (m : Mealy) (r : ℕ) → Splits m r → (Settled m r → ⊥) → Splits m (r + 1)
splits_more m r h e j l z =
    ⊎_elim (λ (y : j ≡ r). e (subst (Settled m) y z)) (λ (y : j ≡ r → ⊥). h j (omega arith) z) (cases_eq j r)

-- A fresh sheet keeps what it should.
pub kept_fresh : {O F : Type 0} (key : O → List ℤ) (m : Meaning O F) → Sizes m → (sound : Bool) (rows : List (List ℕ))
    → sound ≡ sound_by m → rows ≡ replicate 128 (replicate {A = ℕ} 128 0) → KeptAt (stage_at key m 0 false) sound 1 rows
kept_fresh key m sizes sound rows a d = record {
  sounds = a;
  holds = d ∙ rows_fresh (mealy_of key m) (few_states m sizes);
  counts = sym (⊎_elim
      (λ (e : sound_by m ≡ true). cond-true _ _ _ e ∙ one_block_first (mealy_of key m) (some_state m e))
      (λ (e : sound_by m ≡ false). cond-false _ _ _ e) (cases_Bool (sound_by m)));
  splits = λ _ j h e. omega arith;
  settles = λ _ e. absurd (true≢false (sym e));
  idle = λ _. (refl, refl);
}

-- What a stage says of its machine: where it is sound it is complete, starts at a state, its rounds split,
-- and a settled one has settled.
pub record Known (t : Stage) : Type 0 where
  pub closes : t.sound ≡ true → Closed t.machine
  pub starts : t.sound ≡ true → t.start < t.machine.states
  pub splits : t.sound ≡ true → Splits t.machine t.rounds
  pub settles : t.sound ≡ true → t.settled ≡ true → Settled t.machine t.rounds

module _ {M O F : Type 0} {g : machines.Ghosts M O F} {o : outputs.Ghosts O} {f : faults.Ghosts F} (s : Sheet M O F g o f) where
  -- The count of blocks that a sheet of a sound machine keeps.
  pub counted : (stage_of s).sound ≡ true → s.parts ≡ block_count (stage_of s).machine s.rounds
  counted so = s.kept.counts ∙ cond-true _ _ _ so

  -- A round that settles changes only that.
  pub kept_settled : (stage_of s).sound ≡ true → Settled (stage_of s).machine s.rounds
      → KeptAt (stage_at o.key (g.means s.machine) s.rounds true) s.sound s.parts s.rows
  kept_settled so e = record {
    sounds = s.kept.sounds;
    holds = s.kept.holds;
    counts = s.kept.counts;
    splits = s.kept.splits;
    settles = λ _ _. e;
    idle = λ z. absurd (true≢false (sym so ∙ z));
  }

  -- A round that splits takes the next row.
  pub kept_split : (row : List ℕ) (parts : ℕ) → (stage_of s).sound ≡ true → s.rounds + 1 < 128
      → (Settled (stage_of s).machine s.rounds → ⊥) → row ≡ row_of (stage_of s).machine (suc s.rounds)
      → parts ≡ block_count (stage_of s).machine (suc s.rounds)
      → KeptAt (stage_at o.key (g.means s.machine) (s.rounds + 1) s.settled) s.sound parts (set s.rows (s.rounds + 1) row)
  kept_split row parts so l e v c =
      let N : Mealy = (stage_of s).machine in
      let r : ℕ = s.rounds in
      record {
        sounds = s.kept.sounds;
        holds =
            ap (λ (x : List (List ℕ)). set x (r + 1) row) s.kept.holds
            ∙ ap (λ (x : List ℕ). set (rows_of N r) (r + 1) x) (v ∙ ap (row_of N) (sym (add-one r)))
            ∙ rows_more N r l;
        counts = c ∙ ap (block_count N) (sym (add-one r)) ∙ sym (cond-true _ _ _ so);
        splits = λ _. splits_more N r (s.kept.splits so) e;
        settles = λ _ z. absurd (e (s.kept.settles so z));
        idle = λ z. absurd (true≢false (sym so ∙ z));
      }

  -- The last row taken is that of its partition,
  pub last_row : get_or s.rows s.rounds [] ≡ row_of (stage_of s).machine s.rounds
  last_row =
      ap (λ (x : List (List ℕ)). get_or x s.rounds []) s.kept.holds
      ∙ row_is (stage_of s).machine s.rounds s.rounds (omega arith) (omega (arith, s.early, s.few))

  -- and each row holds the numbers of its partition.
  pub held : Sizes (g.means s.machine) → (j : ℕ) → j ≤ s.rounds → Numbered (stage_of s).machine j (get_or s.rows j [])
  held sizes j l u h =
      ap (λ (x : List (List ℕ)). get_or (get_or x j []) u 0) s.kept.holds
      ∙ ap (λ (x : List ℕ). get_or x u 0) (row_is (stage_of s).machine s.rounds j l (omega (arith, s.early, s.few)))
      ∙ row_numbered (stage_of s).machine (few_states (g.means s.machine) sizes) j u h

  -- The last row taken, and its cells.
  pub blocks_kept : Sizes (g.means s.machine) → (stage_of s).sound ≡ true → (k : ℕ) → k ≡ (g.means s.machine).inputs
      → Blocks o.key (g.means s.machine) (get_or s.rows s.rounds []) s.rounds (s.parts * k)
  blocks_kept sizes so k e = record { sound = so; held = held sizes s.rounds (omega arith); all = cc (counted so, e) }

  -- The next partition, made from the last row: where it has no more blocks the sheet has settled, and else it has not.
  module _ (sizes : Sizes (g.means s.machine)) (so : (stage_of s).sound ≡ true) (row : List ℕ) (parts : ℕ)
      (made : Refines o.key (g.means s.machine) (get_or s.rows s.rounds []) row parts) where
    pub next_is : (row ≡ row_of (stage_of s).machine (suc s.rounds)) × (parts ≡ block_count (stage_of s).machine (suc s.rounds))
    next_is = made s.rounds so (held sizes s.rounds (omega arith))

    pub no_more : parts ≤ s.parts → Settled (stage_of s).machine s.rounds
    no_more l = settled_from (stage_of s).machine s.rounds (omega (arith, next_is.1, counted so, l))

    pub some_more : s.parts < parts → Settled (stage_of s).machine s.rounds → ⊥
    some_more l done = omega (arith, next_is.1, counted so, l, settled_count (stage_of s).machine s.rounds done)

  -- What its stage says of its machine.
  pub known : Sizes (g.means s.machine) → meaning.Closed (g.means s.machine) → Known (stage_of s)
  known sizes closed = record {
    closes = sound_closed o.key (g.means s.machine) closed;
    starts = λ e. (sound_fits (g.means s.machine) sizes e).starts;
    splits = s.kept.splits;
    settles = s.kept.settles;
  }

  -- Two states differ in a row taken exactly where its partition sets them apart.
  pub differ : Sizes (g.means s.machine) → (u v : ℕ) → u < (stage_of s).machine.states → v < (stage_of s).machine.states
      → (j : ℕ) → j ≤ s.rounds
      → not (eqb (get_or (get_or s.rows j []) u 0) (get_or (get_or s.rows j []) v 0)) ≡ not (share (stage_of s).machine j u v)
  differ sizes u v lu lv j l =
      let N : Mealy = (stage_of s).machine in
      ap (λ (x : ℕ). not (eqb x (get_or (get_or s.rows j []) v 0))) (held sizes j l u lu)
      ∙ ap (λ (x : ℕ). not (eqb (block N j u) x)) (held sizes j l v lv)
      ∙ ap not (numbers_tell N j u v)

  -- So the first row taken in which they differ is the round in which they part, where they have.
  pub parted_found : Sizes (g.means s.machine) → (u v : ℕ) → u < (stage_of s).machine.states → v < (stage_of s).machine.states
      → position (λ row. not (eqb (get_or row u 0) (get_or row v 0))) (take (s.rounds + 1) s.rows) ≡ parted_in (stage_of s) u v
  parted_found sizes u v lu lv =
      let N : Mealy = (stage_of s).machine in
      let r : ℕ = s.rounds in
      let p : List ℕ → Bool = λ row. not (eqb (get_or row u 0) (get_or row v 0)) in
      let xs : List (List ℕ) = take (r + 1) s.rows in
      let j : ℕ = parted N r u v in
      let rows : length s.rows ≡ 128 = ap length s.kept.holds ∙ length-map-range_with_len (row_at N r) 0 128 in
      let size : length xs ≡ r + 1 = length-take-le (r + 1) s.rows (omega (arith, rows, s.early, s.few)) in
      let at : (i : ℕ) → i < r + 1 → p (get_or xs i []) ≡ not (share N i u v) =
      λ i l. ap p (get_or-take (r + 1) s.rows i [] l) ∙ differ sizes u v lu lv i (omega arith) in
      let is = lowest_is (suc r) (λ i. not (share N i u v)) in
      let first : position_or_len p xs ≡ j =
      position_or_len_is p xs j [] (omega (arith, size, is.within)) (λ k l. at k (omega (arith, is.within)) ∙ is.first k l)
      (λ l. at j (omega (arith, size)) ∙ is.passes (omega (arith, size))) in
      let taken : ltb j (r + 1) ≡ leb j r =
      by_test (leb j r) (λ e. lt-ltb j (r + 1) (omega (arith, leb-true j r e)) ∙ sym e)
      (λ e. le-ltb j (r + 1) (omega (arith, leb-false j r e)) ∙ sym e) in
      ap (λ (x : ℕ). cond (ltb x (length xs)) (Some x) None) first
      ∙ ap (λ (x : ℕ). cond (ltb j x) (Some j) None) size ∙ ap (λ (b : Bool). cond b (Some j) None) taken

-- The partition in which two states part sets them apart.
pub parted_apart : (m : Mealy) (r s t j : ℕ) → j ≡ parted m r s t → j ≤ r → share m j s t ≡ false
parted_apart m r s t j e l =
    let at = (lowest_is (suc r) (λ i. not (share m i s t))).passes (omega (arith, e)) in
    not-true _ (subst (λ (x : ℕ). not (share m x s t) ≡ true) (sym e) at)
