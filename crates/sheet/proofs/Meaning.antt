-- What the replies say of words.
use Rattle.std.proofs.Common.{◌≡◌, ℕ, suc, ◌+◌, ◌-◌, ◌<◌, ◌≤◌, Bool, true, not, ◌&&◌, ltb, leb, List, ◌++◌, map, length, get_or, take, drop, ℤ, Ok, Err, Result, sym, refl, ap, ◌∙◌, subst, arith}
use Rattle.std.specs.List.{range_with_len}
use Rattle.std.proofs.lemmas.List.{get_or_append_left, take_at}
use Rattle.std.proofs.lemmas.List.FromFn.{get_or-map-range_with_len, length-map-range_with_len}
use Rattle.std.proofs.lemmas.Bool.{both_ways, cond_both, cond-true, and_parts, ltb-true, leb-true, leb-false, not-false}
use Rattle.machine.specs.Meaning as meaning
use Rattle.machine.specs.Meaning.{Meaning}
use Rattle.machine.specs.Theory.{sound_by}
use Rattle.machine.specs.declared.Cell.{Cell}
use Rattle.mealy.specs.Mealy.{Mealy}
use Rattle.mealy.specs.FirstWord.{word_of, Shortest}
use Rattle.mealy.specs.Partitions.{share, block, blocks, block_count, parted, Settled}
use Rattle.mealy.proofs.Below.{lowest_is}
use Rattle.mealy.proofs.Numbers.{block_share, share_block, block_lt}
use Rattle.mealy.proofs.Parting.{first_word_is_shortest, no_shorter}
use Rattle.mealy.proofs.Rounds.{settles_in_time}
use Rattle.mealy.proofs.Settled.{settled_alike, equivalent_share}
use Rattle.mealy.proofs.Words.{share_alike, alike_share}
use Rattle.sheet.specs.declared.answers.Pair.{Pair}
use Rattle.sheet.specs.declared.answers.Refusal.{Refusal}
use Rattle.sheet.specs.declared.answers.Round.{Round}
use Rattle.sheet.specs.declared.answers.Round.TheVariants as round
use Rattle.sheet.specs.declared.answers.Settling.{Settling}
use Rattle.sheet.specs.declared.answers.Table.{Table}
use Rattle.sheet.specs.Means.{NoneLonger, RoundMeans, SettleMeans, PairMeans, MapMeans, WordMeans, TableMeans}
use Rattle.sheet.specs.Replies.{settles_in, splits_in_all, round_reply, settle_reply, pair_at, pair_reply, map_reply, map_after, word_at, word_reply, word_after}
use Rattle.sheet.specs.Stage.{Stage, stage_at, if_ok}
use Rattle.sheet.specs.Tables.{cell_count, table_reply, next_at, next_after, OutputsAfter, OutputsWritten}
use Rattle.sheet.proofs.Answering.{heard, states, leaves}
use Rattle.sheet.proofs.Keeping.{Known, splits_more}
use Rattle.sheet.proofs.LastRound.{settles_test, test_settles, last_is}
use Rattle.sheet.proofs.Tabling.{table_smallest, class_equivalent, next_read}

module _ (t : Stage) (k : Known t) (so : t.sound ≡ true) where
  some : 1 ≤ t.machine.states
  some = omega (arith, k.starts so)

  -- Once settled, no longer word tells more apart.
  pub none_longer : (r : ℕ) → Settled t.machine r → NoneLonger t.machine r
  none_longer r done s u ls lu f = settled_alike t.machine (k.closes so) r done s u ls lu (alike_share t.machine r s u f)

  -- What a round that settles or splits says.
  round_settled_lem : (c : ℕ) → Settled t.machine t.rounds → RoundMeans t (Ok (round.Settled c))
  round_settled_lem c done =
      (done, omega (arith, settles_in_time t.machine some t.rounds (k.splits so)), none_longer t.rounds done)

  round_split_lem : (c : ℕ) → (Settled t.machine t.rounds → ⊥) → RoundMeans t (Ok (round.Split c))
  round_split_lem c goes_on =
      (goes_on, settles_in_time t.machine some (t.rounds + 1) (splits_more t.machine t.rounds (k.splits so) goes_on))

-- A round.
pub round_means : (t : Stage) → Known t → (r : Result Round Refusal) → r ≡ round_reply t → RoundMeans t r
round_means t k r e =
    let m = t.machine in
    subst (RoundMeans t) (sym e)
    (cond_both t.sound _ _ (RoundMeans t)
    (λ so. cond_both t.settled _ _ (RoundMeans t) (λ _. tt)
    (λ _. cond_both (settles_in m t.rounds) _ _ (RoundMeans t)
    (λ done. round_settled_lem t k so (block_count m t.rounds) (test_settles m t.rounds done))
    (λ goes_on. round_split_lem t k so (block_count m (suc t.rounds)) (λ done. both_ways _ goes_on (settles_test m t.rounds done)))))
    (λ _. tt))

-- Settling.
pub settle_means : (t : Stage) → Known t → (r : Result Settling Refusal) → r ≡ settle_reply t → SettleMeans t r
settle_means t k r e =
    let m = t.machine in
    let all : ℕ = splits_in_all m in
    subst (SettleMeans t) (sym e)
    (cond_both t.sound _ _ (SettleMeans t)
    (λ so. cond_both t.settled _ _ (SettleMeans t) (λ _. tt)
    (λ _.
    let is = last_is m t.rounds (some t k so) (k.splits so) in
    let last : all ≡ t.rounds + (all - t.rounds + 1 - 1) = omega (arith, is.0) in
    subst (λ (x : ℕ). Settled m x × (x + 1 ≤ m.states) × NoneLonger m x) last
    (is.2, omega (arith, is.1), none_longer t k so all is.2)))
    (λ _. tt))

-- Two states that part in round j of a sheet of r rounds that split.
module _ (t : Stage) (k : Known t) (so : t.sound ≡ true) (s u : ℕ) (ls : s < t.machine.states) (lu : u < t.machine.states) where
  -- Not yet: they share a block of the last partition.
  shares : t.rounds < parted t.machine t.rounds s u → share t.machine t.rounds s u ≡ true
  shares late = not-false _ ((lowest_is (suc t.rounds) (λ i. not (share t.machine i s u))).first t.rounds late)

  pub pair_means_at : (j : ℕ) → j ≡ parted t.machine t.rounds s u → PairMeans t s u (Ok (pair_at t.rounds t.settled j))
  pair_means_at j e =
      let m = t.machine in
      cond_both (leb j t.rounds) _ _ (λ x. PairMeans t s u (Ok x))
      (λ early.
      let l = leb-true j t.rounds early in
      let is = first_word_is_shortest m t.rounds s u (omega (arith, e)) in
      (l, (word_of m t.rounds s u, (is.0 ∙ sym e, is.1.0)), λ v tells. omega (arith, e, no_shorter m s u _ _ is v tells)))
      (λ late.
      let share-one = shares (omega (arith, e, leb-false j t.rounds late)) in
      cond_both t.settled _ _ (λ x. PairMeans t s u (Ok x))
      (λ done. settled_alike m (k.closes so) t.rounds (k.settles so done) s u ls lu share-one)
      (λ _. share_alike m t.rounds s u share-one))

  pub word_means_at : (before : List ℕ) (j : ℕ) → j ≡ parted t.machine t.rounds s u
      → WordMeans t s u (word_at t.rounds (length before) j)
      (if_ok (word_at t.rounds (length before) j) (word_of t.machine t.rounds s u ++ drop (length (word_of t.machine t.rounds s u)) before) before)
  word_means_at before j e =
      let m = t.machine in
      let word : List ℕ = word_of m t.rounds s u in
      let P : Result ℕ Refusal → Type 0 = λ x. WordMeans t s u x (if_ok x (word ++ drop (length word) before) before) in
      cond_both (leb j t.rounds) _ _ P
      (λ early.
      let l = leb-true j t.rounds early in
      let is = first_word_is_shortest m t.rounds s u (omega (arith, e)) in
      let size : length word ≡ j = is.0 ∙ sym e in
      let front : take j (word ++ drop (length word) before) ≡ word = take_at word (drop (length word) before) j size in
      cond_both (ltb (length before) j) _ _ P
      (λ _ v tells. omega (arith, e, no_shorter m s u _ _ is v tells))
      (λ _. record {
        size = ap length front ∙ size;
        first = subst (Shortest m s u) (sym front) is.1;
        paired =
            sym (ap Ok (sym (cond-true _ _ _ early) ∙ ap (pair_at t.rounds t.settled) e)
            ∙ states t _ s u ls lu ∙ heard t _ so);
      }))
      (λ late.
      let share-one = shares (omega (arith, e, leb-false j t.rounds late)) in
      (share_alike m t.rounds s u share-one, λ done. settled_alike m (k.closes so) t.rounds (k.settles so done) s u ls lu share-one))

-- A pair.
pub pair_means : (t : Stage) → Known t → (s u : ℕ) (r : Result Pair Refusal) → r ≡ pair_reply t s u → PairMeans t s u r
pair_means t k s u r e =
    let n : ℕ = t.machine.states in
    subst (PairMeans t s u) (sym e)
    (cond_both t.sound _ _ (PairMeans t s u)
    (λ so. cond_both (ltb s n && ltb u n) _ _ (PairMeans t s u)
    (λ both.
    let parts = and_parts (ltb s n) (ltb u n) both in
    pair_means_at t k so s u (ltb-true s n parts.0) (ltb-true u n parts.1) _ refl)
    (λ _. tt))
    (λ _. tt))

-- A word.
pub word_means : (t : Stage) → Known t → (s u : ℕ) (before : List ℕ) (r : Result ℕ Refusal) (after : List ℕ)
    → r ≡ word_reply t s u (length before) → after ≡ word_after t s u before → WordMeans t s u r after
word_means t k s u before r after e f =
    let n : ℕ = t.machine.states in
    let word : List ℕ = word_of t.machine t.rounds s u in
    let P : Result ℕ Refusal → Type 0 = λ x. WordMeans t s u x (if_ok x (word ++ drop (length word) before) before) in
    subst (λ (x : List ℕ). WordMeans t s u r x) (sym f)
    (subst (λ (x : Result ℕ Refusal). WordMeans t s u x (word_after t s u before)) (sym e)
    (cond_both t.sound _ _ P
    (λ so. cond_both (ltb s n && ltb u n) _ _ P
    (λ both.
    let parts = and_parts (ltb s n) (ltb u n) both in
    word_means_at t k so s u (ltb-true s n parts.0) (ltb-true u n parts.1) before _ refl)
    (λ _. tt))
    (λ _. tt)))

-- A word refused: nothing is written.
pub word_refused : (t : Stage) → Known t → (s u : ℕ) (out : List ℕ) (e : Refusal) → Err e ≡ word_reply t s u (length out)
    → record { answer : Err e ≡ word_reply t s u (length out); buffer : out ≡ word_after t s u out; means : WordMeans t s u (Err e) out }
word_refused t k s u out e answer =
    let buffer : out ≡ word_after t s u out = leaves _ _ _ _ answer in
    record { answer = answer; buffer = buffer; means = word_means t k s u out _ _ answer buffer }

-- The numbers written in front.
module _ (t : Stage) (k : Known t) (so : t.sound ≡ true) (rest : List ℕ) where
  abbrev written : List ℕ
  written = blocks t.machine t.rounds ++ rest

  number_at : (s : ℕ) → s < t.machine.states → get_or written s 0 ≡ block t.machine t.rounds s
  number_at s l =
      let m = t.machine in
      get_or_append_left (blocks m t.rounds) rest 0 s (omega (arith, length-map-range_with_len (block m t.rounds) 0 m.states))
      ∙ get_or-map-range_with_len (block m t.rounds) 0 m.states s s 0 l (omega arith)

  to_share : (s u : ℕ) → s < t.machine.states → u < t.machine.states → get_or written s 0 ≡ get_or written u 0
      → share t.machine t.rounds s u ≡ true
  to_share s u ls lu e = block_share t.machine t.rounds s u (sym (number_at s ls) ∙ e ∙ number_at u lu)

  from_share : (s u : ℕ) → s < t.machine.states → u < t.machine.states → share t.machine t.rounds s u ≡ true
      → get_or written s 0 ≡ get_or written u 0
  from_share s u ls lu e = number_at s ls ∙ share_block t.machine t.rounds s u e ∙ sym (number_at u lu)

  map_means_at : MapMeans {U = Unit {0}} t (Ok tt) written
  map_means_at =
      let m = t.machine in (
        (λ s u ls lu. (λ e. share_alike m t.rounds s u (to_share s u ls lu e), λ f. from_share s u ls lu (alike_share m t.rounds s u f))),
        (λ done s u ls lu. (
          λ e. settled_alike m (k.closes so) t.rounds (k.settles so done) s u ls lu (to_share s u ls lu e),
          λ f. from_share s u ls lu (equivalent_share m t.rounds s u f),
        )),
      )

-- A map.
pub map_means : (t : Stage) → Known t → (before : List ℕ) (r : Result (Unit {0}) Refusal) (after : List ℕ)
    → r ≡ map_reply t (length before) → after ≡ map_after t before → MapMeans t r after
map_means t k before r after e f =
    let n : ℕ = t.machine.states in
    let P : Result (Unit {0}) Refusal → Type 0 = λ x. MapMeans t x (if_ok x (blocks t.machine t.rounds ++ drop n before) before) in
    subst (λ (x : List ℕ). MapMeans t r x) (sym f)
    (subst (λ (x : Result (Unit {0}) Refusal). MapMeans t x (map_after t before)) (sym e)
    (cond_both t.sound _ _ P
    (λ so. cond_both (ltb (length before) n) _ _ P (λ _. tt) (λ _. map_means_at t k so (drop n before)))
    (λ _. tt)))

-- A map or a table refused: nothing is written.
pub map_refused : (t : Stage) (out : List ℕ) (e : Refusal) → Err e ≡ map_reply t (length out)
    → record { answer : Err e ≡ map_reply t (length out); buffer : out ≡ map_after t out; means : MapMeans {U = Unit {0}} t (Err e) out }
map_refused t out e answer = record { answer = answer; buffer = leaves _ _ _ _ answer; means = tt }

pub table_refused : {O F : Type 0} (key : O → List ℤ) (entry : ℕ → ℕ → Result (Cell O) F) (t : Stage) (xs : List ℕ) (ys : List O) (e : Refusal)
    → Err e ≡ table_reply t (length xs) (length ys)
    → record { answer : Err e ≡ table_reply t (length xs) (length ys); next : xs ≡ next_after t (length ys) xs; outputs : OutputsAfter entry t (Err e) ys ys; means : TableMeans key t (Err e) xs ys }
table_refused key entry t xs ys e answer = record { answer = answer; next = leaves _ _ _ _ answer; outputs = refl; means = tt }

-- A table that was written.
pub table_means_at : {O F : Type 0} (key : O → List ℤ) (m : Meaning O F) → meaning.Closed m → (r : ℕ) (done : Bool)
    → Known (stage_at key m r done) → sound_by m ≡ true → done ≡ true → (rest : List ℕ) (outs outs' : List O)
    → let t : Stage = stage_at key m r done in
    OutputsWritten m.entry t.machine r (cell_count t) outs outs' → (a : Table) → a.classes ≡ block_count t.machine r
    → a.start ≡ block t.machine r m.start
    → TableMeans key t (Ok a) (map (next_at t.machine r) (range_with_len 0 (cell_count t)) ++ rest) outs'
table_means_at key m closed r done k so settled rest outs outs' w a ec es =
    let t : Stage = stage_at key m r done in
    let N : Mealy = t.machine in
    let next' : List ℕ = map (next_at N r) (range_with_len 0 (cell_count t)) ++ rest in
    let nexts = next_read N r (cell_count t) rest in
    let start = k.starts so in
    subst (λ (x : ℕ). TableMeans key t (Ok (record { classes = x; start = a.start })) next' outs') (sym ec)
    (subst (λ (x : ℕ). TableMeans key t (Ok (record { classes = block_count N r; start = x })) next' outs') (sym es) (
      table_smallest key m closed so r (k.settles so settled) next' outs outs' nexts w,
      class_equivalent key m closed so r (k.settles so settled) next' outs outs' nexts w m.start start (block_lt N r m.start start),
    ))
