-- The rows that a sheet keeps: what each holds, fresh, and after one more round.
use Rattle.std.proofs.Common.{◌≡◌, ℕ, ◌+◌, ◌<◌, ◌≤◌, cond, ltb, List, [], map, get_or, take, set, replicate, sym, refl, ap, ◌∙◌, ⊎_elim, arith}
use Rattle.std.specs.List.{range_with_len}
use Rattle.std.proofs.lemmas.List.FromFn.{fill_by_all, get_or-map-range_with_len, length-map-range_with_len}
use Rattle.std.proofs.lemmas.List.{length-set, get_or-set_same, get_or-set_other, get_or-replicate, length-replicate, length-take-le, get_or-take}
use Rattle.std.proofs.lemmas.Bool.{cond-true, cond-false, lt-ltb, le-ltb, cases_eq}
use Rattle.mealy.specs.Below.{count}
use Rattle.mealy.specs.Mealy.{Mealy}
use Rattle.mealy.specs.Partitions.{share, leader, leads, block, blocks}
use Rattle.mealy.proofs.Below.{by_order, lowest_le}
use Rattle.rounds.specs.Rows.{place_at, row_of}
use Rattle.rounds.proofs.Rows.{row_numbered, row_filled}
use Rattle.sheet.specs.Kept.{row_at, rows_of}

-- Row j after r rounds that split, where j is one of them, is that of P j.
pub row_is : (m : Mealy) (r j : ℕ) → j ≤ r → r < 128 → get_or (rows_of m r) j [] ≡ row_of m j
row_is m r j l b =
    get_or-map-range_with_len (row_at m r) 0 128 j j [] (omega arith) (omega arith) ∙ cond-false _ _ _ (le-ltb r j l)

-- The front of the row of P j is P j.
pub front_is : (m : Mealy) → m.states ≤ 128 → (j : ℕ) → take m.states (row_of m j) ≡ blocks m j
front_is m le j =
    fill_by_all (block m j) (take m.states (row_of m j)) m.states 0
    (length-take-le m.states (row_of m j) (omega (arith, length-map-range_with_len (place_at m j) 0 128)))
    (λ s h. get_or-take m.states (row_of m j) s 0 h ∙ row_numbered m le j s h)

-- P 0 has the number 0 everywhere, so its row is blank.
first_number : (m : Mealy) (s : ℕ) → block m 0 s ≡ 0
first_number m s =
    let e : leader m 0 s ≡ 0 = omega (arith, lowest_le s (λ t. share m 0 t s) 0 refl) in
    ap (λ (x : ℕ). count x (leads m 0)) e

blank_row : (m : Mealy) → m.states ≤ 128 → replicate {A = ℕ} 128 0 ≡ row_of m 0
blank_row m le =
    row_filled m 0 (replicate {A = ℕ} 128 0) (length-replicate {A = ℕ} 128 0)
    (λ s l. get_or-replicate {A = ℕ} 128 s 0 0 (omega arith) ∙ sym (first_number m s))
    (λ s l h. get_or-replicate {A = ℕ} 128 s 0 0 h)

-- Rows of any width w: those up to r, and blank ones past them.
module _ (w : ℕ) (blank : List ℕ) (row : ℕ → List ℕ) where
  fresh_wide : blank ≡ row 0 → replicate w blank ≡ map (λ j. cond (ltb 0 j) blank (row j)) (range_with_len 0 w)
  fresh_wide e =
      fill_by_all (λ j. cond (ltb 0 j) blank (row j)) (replicate w blank) w [] (length-replicate w blank)
      (λ j h.
      get_or-replicate w j blank [] h
      ∙ by_order {C = blank ≡ cond (ltb 0 j) blank (row j)} 0 j
      (λ l. sym (cond-true _ _ _ (lt-ltb 0 j l)))
      (λ l. let z : 0 ≡ j = omega arith in e ∙ ap row z ∙ sym (cond-false _ _ _ (le-ltb 0 j l))))

  more_wide : (r : ℕ) → r + 1 < w
      → set (map (λ j. cond (ltb r j) blank (row j)) (range_with_len 0 w)) (r + 1) (row (r + 1))
      ≡ map (λ j. cond (ltb (r + 1) j) blank (row j)) (range_with_len 0 w)
  more_wide r b =
      let f : ℕ → List ℕ = λ j. cond (ltb r j) blank (row j) in
      let h : ℕ → List ℕ = λ j. cond (ltb (r + 1) j) blank (row j) in
      let xs : List (List ℕ) = map f (range_with_len 0 w) in
      fill_by_all h (set xs (r + 1) (row (r + 1))) w [] (length-set xs (r + 1) _ ∙ length-map-range_with_len f 0 w)
      (λ j l.
      ⊎_elim {C = get_or (set xs (r + 1) (row (r + 1))) j [] ≡ h j}
      (λ (e : j ≡ r + 1).
      ap (λ (x : ℕ). get_or (set xs (r + 1) (row (r + 1))) x []) e
      ∙ get_or-set_same xs (r + 1) (row (r + 1)) [] (omega (arith, length-map-range_with_len f 0 w))
      ∙ ap row (sym e) ∙ sym (cond-false _ _ _ (le-ltb (r + 1) j (omega arith))))
      (λ (e : j ≡ r + 1 → ⊥).
      get_or-set_other xs (r + 1) j (row (r + 1)) [] e
      ∙ get_or-map-range_with_len f 0 w j j [] l (omega arith)
      ∙ by_order {C = f j ≡ h j} r j
      (λ q. cond-true _ _ _ (lt-ltb r j q) ∙ sym (cond-true _ _ _ (lt-ltb (r + 1) j (omega arith))))
      (λ q. cond-false _ _ _ (le-ltb r j q) ∙ sym (cond-false _ _ _ (le-ltb (r + 1) j (omega arith)))))
      (cases_eq j (r + 1)))

-- Blank rows are those of a fresh sheet.
pub rows_fresh : (m : Mealy) → m.states ≤ 128 → replicate 128 (replicate {A = ℕ} 128 0) ≡ rows_of m 0
rows_fresh m le = fresh_wide 128 (replicate {A = ℕ} 128 0) (row_of m) (blank_row m le)

-- One row more is taken.
pub rows_more : (m : Mealy) (r : ℕ) → r + 1 < 128 → set (rows_of m r) (r + 1) (row_of m (r + 1)) ≡ rows_of m (r + 1)
rows_more m r b = more_wide 128 (replicate {A = ℕ} 128 0) (row_of m) r b
