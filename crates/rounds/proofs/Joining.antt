-- When two entries join.
use Rattle.std.proofs.Common.{◌≡◌, ℕ, Bool, true, ◌&&◌, eqb, List, get_or, ℤ, is_ok, Ok, Err, Decides, Result, sym, refl, ap, ◌∙◌}
use Rattle.machine.specs.Meaning.{Meaning}
use Rattle.machine.specs.Theory.{next_of, key_of}
use Rattle.machine.specs.declared.Cell.{Cell}
use Rattle.mealy.specs.Keys.{same_key}
use Rattle.mealy.proofs.Below.{every_at, every_from}
use Rattle.mealy.proofs.Keys.{same_key_true, key_same}
use Rattle.std.proofs.lemmas.Bool.{and_parts, and_from, eq-eqb, eqb-true, true≢false}
use Rattle.std.proofs.lemmas.Bool.Decides.{same_from_decides}
use Rattle.rounds.specs.Joining.{cells_join, joins_at, joins, finer}

-- What decides that two keys are equal is the test of the keys.
pub alike_is : (r : Bool) (x y : List ℤ) → Decides r (x ≡ y) → r ≡ same_key x y
alike_is r x y h = same_from_decides r (same_key x y) h (same_key_true x y, key_same x y)

module _ {O F : Type 0} (key : O → List ℤ) (prev : List ℕ) where
  -- Cells join by their keys and numbers,
  pub cells_join_lem : (x y : Result (Cell O) F) → is_ok x ≡ true → is_ok y ≡ true
      → cells_join key prev x y
      ≡ (same_key (key_of key x) (key_of key y) && eqb (get_or prev (next_of x) 0) (get_or prev (next_of y) 0))
  cells_join_lem (Ok a) (Ok b) h k = refl
  cells_join_lem (Ok a) (Err e) h k = absurd (true≢false (sym k))
  cells_join_lem (Err e) y h k = absurd (true≢false (sym h))

  join_ok : (x y : Result (Cell O) F) (a b : Cell O) → Ok a ≡ x → Ok b ≡ y
      → cells_join key prev x y
      ≡ (same_key (key a.output) (key b.output) && eqb (get_or prev a.next 0) (get_or prev b.next 0))
  join_ok x y a b p q = ap (λ z. cells_join key prev z y) (sym p) ∙ ap (λ z. cells_join key prev (Ok a) z) (sym q)

  -- by the answer whether their outputs are alike,
  pub join_alike : (x y : Result (Cell O) F) (a b : Cell O) → Ok a ≡ x → Ok b ≡ y
      → (same : Bool) → Decides same (key a.output ≡ key b.output)
      → cells_join key prev x y ≡ (same && eqb (get_or prev a.next 0) (get_or prev b.next 0))
  join_alike x y a b p q same alike =
      join_ok x y a b p q
      ∙ ap (λ r. r && eqb (get_or prev a.next 0) (get_or prev b.next 0)) (sym (alike_is same (key a.output) (key b.output) alike))

  -- and joining is transitive.
  cells_trans : (x y z : Result (Cell O) F) → cells_join key prev x y ≡ true → cells_join key prev y z ≡ true
      → cells_join key prev x z ≡ true
  cells_trans (Err e) y z p q = absurd (true≢false (sym p))
  cells_trans (Ok a) (Err e) z p q = absurd (true≢false (sym p))
  cells_trans (Ok a) (Ok b) (Err e) p q = absurd (true≢false (sym q))
  cells_trans (Ok a) (Ok b) (Ok c) p q =
      let u = and_parts (same_key (key a.output) (key b.output)) (eqb (get_or prev a.next 0) (get_or prev b.next 0)) p in
      let v = and_parts (same_key (key b.output) (key c.output)) (eqb (get_or prev b.next 0) (get_or prev c.next 0)) q in
      let keys : key a.output ≡ key c.output =
      same_key_true (key a.output) (key b.output) u.0 ∙ same_key_true (key b.output) (key c.output) v.0 in
      let nexts : get_or prev a.next 0 ≡ get_or prev c.next 0 =
      eqb-true (get_or prev a.next 0) (get_or prev b.next 0) u.1
      ∙ eqb-true (get_or prev b.next 0) (get_or prev c.next 0) v.1 in
      and_from _ _ (key_same (key a.output) (key c.output) keys)
      (eq-eqb (get_or prev a.next 0) (get_or prev c.next 0) nexts)

-- So is joining with one number.
pub finer_trans : {O F : Type 0} (key : O → List ℤ) (m : Meaning O F) (prev : List ℕ) (u t s : ℕ)
    → finer key m prev u t ≡ true → finer key m prev t s ≡ true → finer key m prev u s ≡ true
finer_trans key m prev u t s p q =
    let a = and_parts (eqb (get_or prev u 0) (get_or prev t 0)) (joins key m prev u t) p in
    let b = and_parts (eqb (get_or prev t 0) (get_or prev s 0)) (joins key m prev t s) q in
    let same : get_or prev u 0 ≡ get_or prev s 0 =
    eqb-true (get_or prev u 0) (get_or prev t 0) a.0 ∙ eqb-true (get_or prev t 0) (get_or prev s 0) b.0 in
    and_from _ _ (eq-eqb (get_or prev u 0) (get_or prev s 0) same)
    (every_from m.inputs (joins_at key m prev u s)
    (λ i l.
    cells_trans key prev (m.entry u i) (m.entry t i) (m.entry s i)
    (every_at m.inputs (joins_at key m prev u t) a.1 i l)
    (every_at m.inputs (joins_at key m prev t s) b.1 i l)))
