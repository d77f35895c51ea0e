-- No runs with equal cells are fewer than the longest ones.
use Rattle.std.proofs.Common.{◌≡◌, ℕ, ◌+◌, ◌<◌, ◌≤◌, List, [], ◌∷◌, length, sym, refl, ◌∙◌, inl, inr, arith}
use Rattle.std.proofs.lemmas.Bool.{cases_lt, cases_eq}
use Rattle.machine.specs.declared.Cell.{Cell}
use Rattle.machine.specs.declared.outputs.Command.{Command}
use Rattle.writing.specs.Runs.{Covering, Fewest, row_runs}
use Rattle.writing.specs.declared.rows.Run.{Run}
use Rattle.writing.proofs.Tiles.{Tiled, row_tiled}

module _ (row : ℕ → Cell Command) (k : ℕ) where
  tiles_cover : (a : ℕ) (xs : List Run) → Tiled row k a xs → Covering row k a xs
  tiles_cover a [] t = t
  tiles_cover a (x ∷ xs) t = (t.0, t.1, t.2, t.3, tiles_cover (x.to + 1) xs t.5)

  -- where the cells change, a run ends: what follows covers the rest, with one run less at least
  cut : (a e : ℕ) (xs : List Run) → Covering row k a xs → a ≤ e → e + 1 < k → (row (e + 1) ≡ row e → ⊥)
      → (zs : List Run) × Covering row k (e + 1) zs × (length zs + 1 ≤ length xs)
  cut a e [] c h l other = absurd (omega arith)
  cut a e (x ∷ xs) c h l other =
      elim (cases_lt x.to e) [
        | inl b ↦ let so = cut (x.to + 1) e xs c.4 (omega arith) l other in (so.0, so.1, omega (arith, so.2))
        | inr b ↦ elim (cases_eq e x.to) [
          | inl p ↦ (xs, rw p c.4, omega arith)
          | inr n ↦ absurd (other (c.3 (e + 1) (omega arith) (omega arith) ∙ sym (c.3 e h b)))
        ]
      ]

  none_left : (a : ℕ) (ys : List Run) → Tiled row k a ys → k ≤ a → length ys ≡ 0
  none_left a [] t h = refl
  none_left a (y ∷ ys) t h = absurd (omega (arith, t.1, t.2))

  some_left : (a : ℕ) (xs : List Run) → Covering row k a xs → a < k → 1 ≤ length xs
  some_left a [] c h = absurd (omega arith)
  some_left a (x ∷ xs) c h = omega arith

  fewest : (a : ℕ) (ys xs : List Run) → Tiled row k a ys → Covering row k a xs → length ys ≤ length xs
  fewest a [] xs t c = omega arith
  fewest a (y ∷ ys) xs t c =
      let here = t.1 in
      let there = t.2 in
      elim (cases_lt (y.to + 1) k) [
        | inl l ↦ let so = cut a y.to xs c here l (λ e. t.4 l (e ∙ t.3 y.to here (omega arith))) in
            omega (arith, fewest (y.to + 1) ys so.0 t.5 so.1, so.2)
        | inr l ↦ omega (arith, none_left (y.to + 1) ys t.5 l, some_left a xs c (omega arith))
      ]

pub runs_fewest : Fewest
runs_fewest row k h =
    let t = row_tiled row k h in
    (tiles_cover row k 0 (row_runs row k) t, λ xs c. fewest row k 0 (row_runs row k) xs t c)
