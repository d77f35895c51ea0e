-- What a sheet of a sound machine writes into lists of the size that is needed.
use Rattle.std.proofs.Common.{◌≡◌, ℕ, zero, suc, true, ◌&&◌, ltb, leb, List, [], ◌∷◌, ◌++◌, map, length, get_or, take, drop, ℤ, Some, None, Ok, Err, Result, sym, refl, ap, ◌∙◌, append-nil, arith}
use lib.Seq.{drop-length}
use Rattle.std.proofs.lemmas.List.FromFn.{fill_by_all}
use Rattle.std.proofs.lemmas.List.{take_at, length-map}
use Rattle.std.proofs.lemmas.Bool.{cond_both, cond-true, cond-false, le-ltb, leb-true}
use Rattle.std.specs.List.{slice_get, range_with_len}
use Rattle.machine.specs.declared.Cell.{Cell}
use Rattle.mealy.specs.FirstWord.{word_of}
use Rattle.mealy.specs.Partitions.{blocks, parted}
use Rattle.mealy.proofs.Parting.{first_word_is_shortest}
use Rattle.sheet.specs.Means.{TableMeans}
use Rattle.sheet.specs.Replies.{map_reply, map_after, word_reply, word_after}
use Rattle.sheet.specs.Stage.{Stage, if_ok}
use Rattle.sheet.specs.Tables.{cell_count, next_at, table_reply, table_of, next_after, OutputsAfter, OutputsWritten}
use Rattle.sheet.specs.declared.answers.Refusal.{Refusal}
use Rattle.sheet.specs.declared.answers.Table.{Table}
use Rattle.reductions.specs.Reductions.{HandedTable, output_at}

pub ok≢err : {A E : Type 0} (x : A) (e : E) → Ok x ≡ Err e → ⊥
ok≢err x e h = cc

module _ (t : Stage) (so : t.sound ≡ true) where
  -- A map into as many places as there are states.
  pub map_heard : (size : ℕ) → size ≡ t.machine.states → map_reply t size ≡ Ok tt
  map_heard size e =
      cond-true t.sound _ _ so ∙ cond-false (ltb size t.machine.states) _ _ (le-ltb size t.machine.states (omega arith))

  pub map_written : (before : List ℕ) → length before ≡ t.machine.states → map_after t before ≡ blocks t.machine t.rounds
  map_written before e =
      ap (λ (r : Result (Unit {0}) Refusal). if_ok r (blocks t.machine t.rounds ++ drop t.machine.states before) before) (map_heard (length before) e)
      ∙ rw (sym e, drop-length, append-nil)

-- A word that was written.
pub word_written : (t : Stage) (s u n : ℕ) (before after : List ℕ) → Ok n ≡ word_reply t s u (length before)
    → after ≡ word_after t s u before → take n after ≡ word_of t.machine t.rounds s u
word_written t s u n before after e f =
    let m = t.machine in
    let j : ℕ = parted m t.rounds s u in
    let word : List ℕ = word_of m t.rounds s u in
    let P : Result ℕ Refusal → Type 0 = λ x. Ok n ≡ x → take n (if_ok x (word ++ drop (length word) before) before) ≡ word in
    let all : P (word_reply t s u (length before)) =
    cond_both t.sound _ _ P
    (λ _. cond_both (ltb s m.states && ltb u m.states) _ _ P
    (λ _. cond_both (leb j t.rounds) _ _ P
    (λ early. cond_both (ltb (length before) j) _ _ P
    (λ _ h. absurd (ok≢err _ _ h))
    (λ _ h.
    let size = (first_word_is_shortest m t.rounds s u (leb-true j t.rounds early)).0 in
    let same : n ≡ j = cc in
    take_at word (drop (length word) before) n (size ∙ sym same)))
    (λ _ h. absurd (ok≢err _ _ h)))
    (λ _ h. absurd (ok≢err _ _ h)))
    (λ _ h. absurd (ok≢err _ _ h)) in
    ap (take n) f ∙ all e

-- What stands at each place, as a list.
nth_read : {O : Type 0} (xs : List O) (k : ℕ) → get_or (map Some xs) k None ≡ slice_get xs k
nth_read [] k = refl
nth_read (x ∷ xs) zero = refl
nth_read (x ∷ xs) (suc k) = nth_read xs k

-- A table into as many places as it has cells.
module _ (t : Stage) (so : t.sound ≡ true) (done : t.settled ≡ true) where
  pub table_heard : (nexts outs : ℕ) → nexts ≡ cell_count t → outs ≡ cell_count t → table_reply t nexts outs ≡ Ok (table_of t)
  table_heard nexts outs e f =
      cond-true t.sound _ _ so
      ∙ cond-true t.settled _ _ done
      ∙ cond-false (ltb nexts (cell_count t)) _ _ (le-ltb nexts (cell_count t) (omega arith))
      ∙ cond-false (ltb outs (cell_count t)) _ _ (le-ltb outs (cell_count t) (omega arith))

  next_written : (before : List ℕ) (outs : ℕ) → length before ≡ cell_count t → outs ≡ cell_count t
      → next_after t outs before ≡ map (next_at t.machine t.rounds) (range_with_len 0 (cell_count t))
  next_written before outs e f =
      ap (λ (r : Result Table Refusal). if_ok r (map (next_at t.machine t.rounds) (range_with_len 0 (cell_count t)) ++ drop (cell_count t) before) before) (table_heard (length before) outs e f)
      ∙ rw (sym e, drop-length, append-nil)

  module _ {O F : Type 0} (key : O → List ℤ) (entry : ℕ → ℕ → Result (Cell O) F) where
    outputs_written : (before after : List O) → length before ≡ cell_count t → OutputsWritten entry t.machine t.rounds (cell_count t) before after
        → map Some after ≡ map (output_at entry t) (range_with_len 0 (cell_count t))
    outputs_written before after e w =
        fill_by_all (output_at entry t) (map Some after) (cell_count t) None (length-map after Some ∙ w.size ∙ e)
        (λ k h. nth_read after k ∙ w.written k h)

    pub table_handed : (a : Table) (next next' : List ℕ) (outs outs' : List O) → length next ≡ cell_count t → length outs ≡ cell_count t
        → Ok a ≡ table_reply t (length next) (length outs) → next' ≡ next_after t (length outs) next
        → OutputsAfter entry t (Ok a) outs outs' → TableMeans key t (Ok a) next' outs'
        → HandedTable key entry t a next' outs'
    table_handed a next next' outs outs' ln lo answer written outputs means =
        let heard = table_heard (length next) (length outs) ln lo in
        record {
          answer = cc;
          next = written ∙ next_written next (length outs) ln lo;
          outputs = outputs_written outs outs' lo outputs;
          smallest = means.0;
          starts = means.1;
        }
