-- Runs, input by input.
use Rattle.std.proofs.Common.{◌≡◌, ℕ, zero, suc, ◌+◌, ◌*◌, ◌≤◌, true, false, List, [], ◌∷◌, length, sym, refl, ap, ◌∙◌, inl, inr, arith}
use Rattle.std.proofs.lemmas.Bool.{cases_Bool, cond-true, cond-false}
use Rattle.std.proofs.lemmas.Bool.Decides.{nat_tests}
use Rattle.machine.specs.declared.Cell.{Cell}
use Rattle.machine.specs.declared.outputs.Command.{Command}
use Rattle.writing.specs.Bytes.{puts}
use Rattle.writing.specs.Runs.{ends_run, run, runs, row_runs}
use Rattle.writing.specs.Written.{link_to, records, place_of}
use Rattle.writing.specs.declared.rows.Run.{Run}
use Rattle.writing.proofs.Puts.{puts_append}

pub length_records : (row : ℕ → Cell Command) (r : ℕ) (xs : List Run) → length (records row r xs) ≡ 5 * length xs
length_records row r [] = refl
length_records row r (x ∷ xs) = let e = length_records row (r + 1) xs in omega arith

module _ (row : ℕ → Cell Command) (k : ℕ) where
  -- a run goes on, or ends
  pub runs_on : (a i l m : ℕ) → l ≡ suc m → ends_run row k i ≡ false → runs row k a i l ≡ runs row k a (i + 1) m
  runs_on a i l m e h = ap (runs row k a i) e ∙ cond-false _ _ _ h

  pub runs_end : (a i l m : ℕ) → l ≡ suc m → ends_run row k i ≡ true → runs row k a i l ≡ run a i ∷ runs row k (i + 1) (i + 1) m
  runs_end a i l m e h = ap (runs row k a i) e ∙ cond-true _ _ _ h

  -- how many there are does not depend on where the first began
  runs_length : (a b i l : ℕ) → length (runs row k a i l) ≡ length (runs row k b i l)
  runs_length a b i zero = refl
  runs_length a b i (suc l) =
      elim (cases_Bool (ends_run row k i)) [
        | inl h ↦ ap length (runs_end a i (suc l) l refl h) ∙ sym (ap length (runs_end b i (suc l) l refl h))
        | inr h ↦ ap length (runs_on a i (suc l) l refl h)
            ∙ (runs_length a b (i + 1) l ∙ sym (ap length (runs_on b i (suc l) l refl h)))
      ]

  pub count_on : (a i l m : ℕ) → l ≡ suc m → ends_run row k i ≡ false → length (runs row k a i l) ≡ length (runs row k a (i + 1) m)
  count_on a i l m e h = ap length (runs_on a i l m e h)

  pub count_end : (a i l m : ℕ) → l ≡ suc m → ends_run row k i ≡ true → length (runs row k a i l) ≡ 1 + length (runs row k a (i + 1) m)
  count_end a i l m e h = omega (arith, ap length (runs_end a i l m e h), runs_length (i + 1) a (i + 1) m)

  -- one for each input at most
  pub runs_le : (a i l : ℕ) → length (runs row k a i l) ≤ l
  runs_le a i zero = omega arith
  runs_le a i (suc l) =
      elim (cases_Bool (ends_run row k i)) [
        | inl h ↦ omega (arith, ap length (runs_end a i (suc l) l refl h), runs_le (i + 1) (i + 1) l)
        | inr h ↦ omega (arith, ap length (runs_on a i (suc l) l refl h), runs_le a (i + 1) l)
      ]

  -- one at least, since a run ends at the last input
  pub runs_some : (a i l r : ℕ) → i + suc l ≡ k → link_to r (runs row k a i (suc l)) ≡ r
  runs_some a i zero r e =
      let h : ends_run row k i ≡ true = grind (arith, nat_tests) in
      ap (link_to r) (runs_end a i 1 0 refl h)
  runs_some a i (suc l) r e =
      elim (cases_Bool (ends_run row k i)) [
        | inl h ↦ ap (link_to r) (runs_end a i (suc (suc l)) (suc l) refl h)
        | inr h ↦ ap (link_to r) (runs_on a i (suc (suc l)) (suc l) refl h) ∙ runs_some a (i + 1) l r (omega arith)
      ]

  -- the link of a record, by the inputs behind its run
  pub link_none : (a i l r : ℕ) → l ≡ 0 → 0 ≡ link_to r (runs row k a i l)
  link_none a i l r e = sym (ap (λ n. link_to r (runs row k a i n)) e)

  pub link_some : (a i l m r : ℕ) → l ≡ suc m → i + l ≡ k → r ≡ link_to r (runs row k a i l)
  link_some a i l m r e h = sym (ap (λ n. link_to r (runs row k a i n)) e ∙ runs_some a i m r (omega (arith, e, h)))

-- Where the writing of a state's records stands: the run from a has come to i, l inputs follow, and r is the next record.
-- bz is the buffer as it was, and bs as it is.
pub record Standing (row : ℕ → Cell Command) (k n first : ℕ) (bz bs : List ℕ) (a i l r : ℕ) : Type 0 where
  pub begun : a ≤ i
  pub risen : first ≤ r
  pub counted : r + length (runs row k a i l) ≡ first + length (row_runs row k)
  pub left : puts bs (place_of n r) (records row r (runs row k a i l)) ≡ puts bz (place_of n first) (records row first (row_runs row k))

pub stands_as : (row : ℕ → Cell Command) (k n first : ℕ) (bz bs bt : List ℕ) (a b i l r t : ℕ) → bt ≡ bs → b ≡ a → t ≡ r
    → Standing row k n first bz bs a i l r → Standing row k n first bz bt b i l t
stands_as row k n first bz bs bt a b i l r t x y z st = rw (x, y, z) st

module _ (row : ℕ → Cell Command) (k n first : ℕ) (bz bs : List ℕ) (a i l m r : ℕ)
    (e : l ≡ suc m) (st : Standing row k n first bz bs a i l r) where
  pub stands_on : ends_run row k i ≡ false → Standing row k n first bz bs a (i + 1) m r
  stands_on h =
      let f = runs_on row k a i l m e h in
      let g = ap length f in
      record {
        begun = omega (arith, st.begun);
        risen = st.risen;
        counted = omega (arith, st.counted);
        left = sym (ap (λ u. puts bs (place_of n r) (records row r u)) f) ∙ st.left;
      }

  pub stands_end : (bt : List ℕ) (p z : ℕ) (c : Cell Command) → ends_run row k i ≡ true → 1 ≤ first
      → c ≡ row a → p ≡ place_of n r
      → z ≡ link_to (r + 1) (runs row k (i + 1) (i + 1) m)
      → bt ≡ puts bs p (a ∷ i ∷ c.next ∷ c.output.number ∷ z ∷ [])
      → Standing row k n first bz bt (i + 1) (i + 1) m (r + 1)
  stands_end bt p z c h o d q y w =
      let f = runs_end row k a i l m e h in
      let g = ap length f in
      let rest = runs row k (i + 1) (i + 1) m in
      let here : List ℕ = a ∷ i ∷ (row a).next ∷ (row a).output.number ∷ link_to (r + 1) rest ∷ [] in
      let behind = puts_append bs (place_of n r) (place_of n (r + 1)) here (records row (r + 1) rest) (omega (arith, st.risen)) in
      record {
        begun = omega arith;
        risen = omega (arith, st.risen);
        counted = omega (arith, st.counted);
        left = cc (behind, f, d, q, y, w, st.left);
      }
