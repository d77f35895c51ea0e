-- What a row of a partition holds.
use Rattle.std.proofs.Common.{◌≡◌, ℕ, ◌<◌, ◌≤◌, List, length, get_or, sym, ◌∙◌, arith}
use Rattle.std.proofs.lemmas.List.FromFn.{fill_by_all, get_or-map-range_with_len}
use Rattle.std.proofs.lemmas.Bool.{cond-true, cond-false, lt-ltb, le-ltb}
use Rattle.mealy.specs.Mealy.{Mealy}
use Rattle.mealy.proofs.Below.{by_order}
use Rattle.rounds.specs.Rows.{place_at, row_of, Numbered}

-- The row of P j has its numbers.
pub row_numbered : (m : Mealy) → m.states ≤ 128 → (j : ℕ) → Numbered m j (row_of m j)
row_numbered m le j s l =
    get_or-map-range_with_len (place_at m j) 0 128 s s 0 (omega arith) (omega arith) ∙ cond-true _ _ _ (lt-ltb s m.states l)

-- 128 places with the numbers of P j, and 0 past the states, are that row.
pub row_filled : (m : Mealy) (j : ℕ) (row : List ℕ) → length row ≡ 128 → Numbered m j row
    → ((s : ℕ) → m.states ≤ s → s < 128 → get_or row s 0 ≡ 0) → row ≡ row_of m j
row_filled m j row size numbers rest =
    fill_by_all (place_at m j) row 128 0 size
    (λ s h. by_order s m.states
    (λ l. numbers s l ∙ sym (cond-true _ _ _ (lt-ltb s m.states l)))
    (λ l. rest s l h ∙ sym (cond-false _ _ _ (le-ltb s m.states l))))
