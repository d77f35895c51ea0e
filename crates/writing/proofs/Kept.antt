-- A row of cells, kept in a list.
use Rattle.std.proofs.Common.{◌≡◌, ℕ, ◌+◌, ◌-◌, ◌<◌, List, [], ◌∷◌, ◌++◌, length, get_or, Ok, Err, Result, sym, refl, ap, ◌∙◌, inl, inr, arith}
use Rattle.std.proofs.lemmas.Bool.{cases_lt}
use Rattle.std.proofs.lemmas.List.{get_or_past, get_or_append_left, get_or-append_right}
use mathlib.Core.Path.{fun_ext}
use Rattle.machine.specs.Meaning.{Meaning, Inside}
use Rattle.machine.specs.declared.Cell.{Cell}
use Rattle.machine.specs.declared.outputs.Command.{Command}
use Rattle.writing.specs.Runs.{no_cell, filled, row_of}

-- one cell more
pub pushed : {B : Type 0} (xs ys : List B) (n : ℕ) (y : B) (f : ℕ → B) (d : B) → length xs ≡ n
    → ((i : ℕ) → i < n → get_or xs i d ≡ f i) → ys ≡ xs ++ y ∷ [] → y ≡ f n
    → (i : ℕ) → i < n + 1 → get_or ys i d ≡ f i
pushed xs ys n y f d long at e here i h =
    ap (λ v. get_or v i d) e
    ∙ elim (cases_lt i n) [
      | inl l ↦ get_or_append_left xs (y ∷ []) d i (omega (arith, long)) ∙ at i l
      | inr l ↦ let p : i ≡ n = omega arith in
          let z : i - n ≡ 0 = omega arith in
          get_or-append_right xs (y ∷ []) n i d long l ∙ (ap (λ k. get_or (y ∷ []) k d) z ∙ (here ∙ ap f (sym p)))
    ]

-- an answer that is no cell
filled_none : {F : Type 0} (r : Result (Cell Command) F) → ((c : Cell Command) → r ≡ Ok c → ⊥) → filled r ≡ no_cell
filled_none (Ok c) h = absurd (h c refl)
filled_none (Err e) h = refl

-- the cells below the count of inputs are all of them
pub kept : {F : Type 0} (m : Meaning Command F) (s n : ℕ) (cells : List (Cell Command)) → Inside m → n ≡ m.inputs
    → length cells ≡ n → ((i : ℕ) → i < n → get_or cells i no_cell ≡ row_of m s i)
    → (λ i. get_or cells i no_cell) ≡ row_of m s
kept m s n cells inside all long at =
    fun_ext (λ i. elim (cases_lt i n) [
      | inl l ↦ at i l
      | inr l ↦ get_or_past cells i no_cell (omega arith)
          ∙ sym (filled_none (m.entry s i) (λ c e. let b = (inside s i c e).1 in omega arith))
    ])
