-- The runs of a row are its longest runs.
use Rattle.std.proofs.Common.{◌≡◌, ℕ, zero, suc, ◌+◌, ◌<◌, ◌≤◌, true, false, eqb, List, [], ◌∷◌, sym, refl, ap, ◌∙◌, subst, inl, inr, arith}
use Rattle.std.proofs.lemmas.Bool.{cases_Bool, cases_lt, and_parts, both_ways, eqb-true}
use Rattle.std.proofs.lemmas.Bool.Decides.{nat_tests}
use Rattle.machine.specs.declared.Cell.{Cell}
use Rattle.machine.specs.declared.outputs.Command.{Command}
use Rattle.writing.specs.Runs.{equal_cells, ends_run, runs, row_runs}
use Rattle.writing.specs.declared.rows.Run.{Run}
use Rattle.writing.proofs.RunSteps.{runs_on, runs_end}

-- The runs cover the inputs from a to k - 1 in order: each begins where the one before ends, its cells are equal, and the
-- cell behind it is another one.
abbrev pub Tiled : (ℕ → Cell Command) → ℕ → ℕ → List Run → Type 0
Tiled row k a [] = a ≡ k
Tiled row k a (x ∷ xs) =
    (x.from ≡ a) × (a ≤ x.to) × (x.to < k)
    × ((i : ℕ) → a ≤ i → i ≤ x.to → row i ≡ row a)
    × (x.to + 1 < k → row (x.to + 1) ≡ row a → ⊥)
    × Tiled row k (x.to + 1) xs

cells_equal : (a b : Cell Command) → equal_cells a b ≡ true → a ≡ b
cells_equal a b h =
    let t = and_parts (eqb a.next b.next) (eqb a.output.number b.output.number) h in
    let p = eqb-true a.next b.next t.0 in
    let q = eqb-true a.output.number b.output.number t.1 in
    let make : ℕ → ℕ → Cell Command = λ x y. record { next = x; output = record { number = y } } in
    ap (λ x. make x a.output.number) p ∙ ap (λ y. make b.next y) q

equal_same : (a b : Cell Command) → a ≡ b → equal_cells a b ≡ true
equal_same a b e = grind (arith, nat_tests)

-- what the test for the end of a run tells
not_ended : (row : ℕ → Cell Command) (k i : ℕ) → ends_run row k i ≡ false → equal_cells (row i) (row (i + 1)) ≡ true
not_ended row k i h = grind (arith, nat_tests)

ended : (row : ℕ → Cell Command) (k i : ℕ) → ends_run row k i ≡ true → i + 1 < k → equal_cells (row i) (row (i + 1)) ≡ false
ended row k i h l = grind (arith, nat_tests)

last_ends : (row : ℕ → Cell Command) (k i : ℕ) → i + 1 ≡ k → ends_run row k i ≡ true
last_ends row k i e = grind (arith, nat_tests)

module _ (row : ℕ → Cell Command) (k : ℕ) where
  -- the run from a has come to i
  tiled : (a i l : ℕ) → i + l ≡ k → a ≤ i → ((l ≡ 0) → a ≡ k) → ((x : ℕ) → a ≤ x → x ≤ i → i < k → row x ≡ row a)
      → Tiled row k a (runs row k a i l)
  tiled a i zero e h z same = z refl
  tiled a i (suc l) e h z same =
      elim (cases_Bool (ends_run row k i)) [
        | inl t ↦ subst (Tiled row k a) (sym (runs_end row k a i (suc l) l refl t)) (
          refl,
          h,
          omega arith,
          (λ x u v. same x u v (omega arith)),
          (λ u v. both_ways (equal_cells (row i) (row (i + 1))) (ended row k i t u)
              (equal_same (row i) (row (i + 1)) (same i h (omega arith) (omega arith) ∙ sym v))),
          tiled (i + 1) (i + 1) l (omega arith) (omega arith) (λ w. omega arith) (λ x u v w. let q : x ≡ i + 1 = omega arith in ap row q),
        )
        | inr t ↦ subst (Tiled row k a) (sym (runs_on row k a i (suc l) l refl t))
            (tiled a (i + 1) l (omega arith) (omega arith) (λ w. absurd (both_ways (ends_run row k i) t (last_ends row k i (omega arith))))
            (λ x u v w. elim (cases_lt i x) [
              | inl b ↦ let q : x ≡ i + 1 = omega arith in
                  ap row q ∙ (sym (cells_equal (row i) (row (i + 1)) (not_ended row k i t)) ∙ same i h (omega arith) (omega arith))
              | inr b ↦ same x u b (omega arith)
            ]))
      ]

  pub row_tiled : 1 ≤ k → Tiled row k 0 (row_runs row k)
  row_tiled h = tiled 0 0 k (omega arith) (omega arith) (λ w. omega arith) (λ x u v w. let q : x ≡ 0 = omega arith in ap row q)
