-- The cells of a grid over the front of two lists.
use Rattle.std.proofs.Common.{◌≡◌, ℕ, zero, suc, ◌+◌, ◌*◌, ◌<◌, ◌≤◌, List, [], ◌∷◌, length, get_or, take, ℤ, is_ok, IfOk as made, Some, Ok, Err, Result, sym, refl, ap, ◌∙◌, arith, length-take}
use Rattle.std.proofs.lemmas.Nat.{mul-add-lt}
use Rattle.std.proofs.lemmas.List.{get_or-take}
use Rattle.std.proofs.lemmas.Bool.Decides.{nat_tests}
use Rattle.std.proofs.lemmas.Bool.{cond-false, ne_eqb, lt-leb}
use Rattle.std.specs.List.{slice_get}
use Rattle.std.specs.Result.{result_map_both}
use Rattle.forms.specs.Entries.{cell}
use Rattle.forms.specs.Forms.{grid_of}
use Rattle.forms.specs.declared.Grid.{Grid}
use Rattle.forms.specs.declared.openings.OpenRefusal.{OpenRefusal}
use Rattle.forms.specs.Grids.{grid_cell, grid_entry, grid_meaning, grid_opening}
use Rattle.forms.specs.Bounds.{after_test, in_bounds}
use Rattle.machine.specs.Meaning.{Meaning}
use Rattle.machine.specs.Theory.{next_of, key_of}
use Rattle.machine.specs.declared.faults.StoredFault.{StoredFault}
use Rattle.mealy.specs.Mealy.{Closed}
use Rattle.sheet.specs.Tables.{key_at, table_mealy}
use Rattle.tables.specs.Tables.{IsTable}

-- a next state and an output that make a cell
pub cell_there : {O : Type 0} (n k s i t : ℕ) (o : O) (next : List ℕ) (outs : List O) → s < n → i < k → n ≤ 128
    → get_or next (s * k + i) 0 ≡ t → t < n → slice_get outs (s * k + i) ≡ Some o → grid_entry n k next outs s i ≡ cell t o
cell_there {O} n k s i t o next outs h l few e low there =
    let p = s * k + i in
    let here : grid_cell n s i p (get_or next p 0) (slice_get outs p) ≡ grid_cell n s i p t (Some o) = rw (there, e) refl in
    let made : grid_cell n s i p t (Some o) ≡ cell t o =
    cond-false _ _ _ (ne_eqb t 65535 (omega arith)) ∙ cond-false _ _ _ (lt-leb n t low) in
    after_test _ tt _ (in_bounds n k s i h l) ∙ (here ∙ made)

module _ {O : Type 0} where
  -- what stands in the front of a list
  nth_take : (n : ℕ) (xs : List O) (i : ℕ) → i < n → slice_get (take n xs) i ≡ slice_get xs i
  nth_take zero xs i h = absurd (omega arith)
  nth_take (suc n) [] i h = refl
  nth_take (suc n) (x ∷ xs) zero h = refl
  nth_take (suc n) (x ∷ xs) (suc i) h = nth_take n xs i (omega arith)

  nth_there : (xs : List O) (i : ℕ) → i < length xs → (x : O) × (slice_get xs i ≡ Some x)
  nth_there [] i h = absurd (omega arith)
  nth_there (x ∷ xs) zero h = (x, refl)
  nth_there (x ∷ xs) (suc i) h = nth_there xs i (omega arith)

  -- what a grid that opened has
  record Opened (n k start : ℕ) (next : List ℕ) (outs : List O) (g : Meaning O StoredFault) : Type 0 where
    some_states : 1 ≤ n
    few_states : n ≤ 128
    some_inputs : 1 ≤ k
    few_inputs : k ≤ 32
    starts : start < n
    nexts : length next ≡ n * k
    outputs : length outs ≡ n * k
    grid : grid_meaning n k start next outs ≡ g

  opened : (n k start a b : ℕ) (next : List ℕ) (outs : List O) (g : Meaning O StoredFault) → a ≡ length next → b ≡ length outs
      → Ok g ≡ grid_opening n k start next outs → Opened n k start next outs g
  opened n k start a b next outs g p q h = record {
    some_states = grind (arith, nat_tests);
    few_states = grind (arith, nat_tests);
    some_inputs = grind (arith, nat_tests);
    few_inputs = grind (arith, nat_tests);
    starts = grind (arith, nat_tests);
    nexts = grind (arith, nat_tests);
    outputs = grind (arith, nat_tests);
    grid = grind (arith, nat_tests);
  }

module _ {O : Type 0} (key : O → List ℤ) (c k start : ℕ) (next : List ℕ) (outs : List O) where
  -- the cell of the grid over the front of two lists that are a complete machine
  cell_is : c ≤ 128 → c * k ≤ length outs → Closed (table_mealy key c k next outs) → (s i : ℕ) → s < c → i < k
      → (o : O) × (slice_get outs (s * k + i) ≡ Some o)
      × (grid_entry c k (take (c * k) next) (take (c * k) outs) s i ≡ cell (get_or next (s * k + i) 0) o)
  cell_is few long closed s i h l =
      let p : s * k + i < c * k = omega (arith, mul-add-lt s k i c h l) in
      let o = nth_there outs (s * k + i) (omega arith) in (
        o.0,
        o.1,
        cell_there c k s i (get_or next (s * k + i) 0) o.0 (take (c * k) next) (take (c * k) outs) h l few
            (get_or-take (c * k) next (s * k + i) 0 p) (closed s i h l) (nth_take (c * k) outs (s * k + i) p ∙ o.1),
      )

  pub is_table : (g : Meaning O StoredFault) → Ok g ≡ grid_opening c k start (take (c * k) next) (take (c * k) outs)
      → IsTable key c k next outs g
  is_table g h closed =
      let f = opened c k start _ _ (take (c * k) next) (take (c * k) outs) g refl refl h in
      let long : c * k ≤ length outs = omega (arith, length-take (c * k) outs, f.outputs) in
      let at = cell_is f.few_states long closed in
      rw (sym f.grid) (
        record {
          fits = record {
            some_states = f.some_states;
            few_states = f.few_states;
            some_inputs = f.some_inputs;
            few_inputs = f.few_inputs;
            starts = f.starts;
          };
          filled = λ s i a b. ap is_ok (at s i a b).2;
        },
        record {
          states = refl;
          inputs = refl;
          next = λ s i a b. ap next_of (at s i a b).2;
          key = λ s i a b. ap (key_of key) (at s i a b).2 ∙ ap (key_at key) (sym (at s i a b).1);
        },
      )

  -- the same of an opening's answer
  pub table_means : (r : Result (Grid O) OpenRefusal)
      → result_map_both grid_of (λ e. e) r ≡ grid_opening c k start (take (c * k) next) (take (c * k) outs)
      → made r (λ g. IsTable key c k next outs (grid_of g))
  table_means (Ok g) h = is_table (grid_of g) h
  table_means (Err e) h = tt
