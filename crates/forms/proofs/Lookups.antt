-- What is looked up: the entry of a grid at its place, and the record that a link leads to.
use Rattle.std.proofs.Common.{◌≡◌, ℕ, ◌+◌, ◌*◌, ◌<◌, ◌≤◌, cond, List, length, get_or, Some, None, Ok, sym, refl, ◌∙◌, arith}
use Rattle.std.specs.List.{slice_get}
use Rattle.std.proofs.lemmas.Bool.Decides.{nat_tests}
use Rattle.std.proofs.lemmas.List.{get_or_read}
use Rattle.std.proofs.lemmas.Option.{slice_get_read}
use Rattle.forms.specs.Bounds.{after_test, bounds_place}
use Rattle.forms.specs.Bytes.{count}
use Rattle.forms.specs.Chains.{follows, record_at}
use Rattle.forms.specs.Entries.{bounds_test}
use Rattle.forms.specs.Grids.{grid_cell, grid_entry}
use Rattle.forms.specs.declared.chains.Record.{Record}

pub grid_entry_lem : {O : Type 0} (n k s i t : ℕ) (o : O) (next : List ℕ) (outs : List O)
    → Ok tt ≡ bounds_test n k s i → t ≡ get_or next (s * k + i) 0 → slice_get outs (s * k + i) ≡ Some o
    → grid_cell n s i (s * k + i) t (Some o) ≡ grid_entry n k next outs s i
grid_entry_lem {O} n k s i t o next outs ok here there =
    let p = after_test (bounds_test n k s i) tt (grid_cell n s i (s * k + i) (get_or next (s * k + i) 0) (slice_get outs (s * k + i))) ok in
    let q : grid_cell n s i (s * k + i) t (Some o) ≡ grid_cell n s i (s * k + i) (get_or next (s * k + i) 0) (slice_get outs (s * k + i)) =
    rw (there, here) refl in
    q ∙ sym p

-- the same by what is read in both lists
pub grid_read_lem : {O : Type 0} (n k s i t : ℕ) (o : O) (next : List ℕ) (outs : List O)
    → Ok tt ≡ bounds_test n k s i → length next ≡ n * k → length outs ≡ n * k
    → t ≡ get_or next (s * k + i) t → o ≡ get_or outs (s * k + i) o
    → grid_cell n s i (s * k + i) t (Some o) ≡ grid_entry n k next outs s i
grid_read_lem {O} n k s i t o next outs ok nexts outputs here there =
    let p = s * k + i in
    let h = bounds_place n k s i ok in
    grid_entry_lem n k s i t o next outs ok (get_or_read next p t (omega arith) here 0) (slice_get_read outs (n * k) p o (sym outputs) h there)

pub followed_lem : (bs : List ℕ) (p r : ℕ) (x : Record) → Some x ≡ cond (follows p r (count bs)) (Some (record_at bs r)) None
    → (x ≡ record_at bs r) × (p < r) × (r ≤ count bs)
followed_lem bs p r x h = (grind (arith, nat_tests), grind (arith, nat_tests), grind (arith, nat_tests))
