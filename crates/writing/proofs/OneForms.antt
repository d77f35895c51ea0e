-- The same machine is written as the same bytes.
use Rattle.std.proofs.Common.{◌≡◌, ℕ, zero, suc, Ok, Err, Result, sym, refl, ap}
use mathlib.Core.Path.{fun_ext}
use Rattle.machine.specs.Meaning.{Meaning}
use Rattle.machine.specs.declared.Cell.{Cell}
use Rattle.machine.specs.declared.faults.StoredFault.{StoredFault}
use Rattle.machine.specs.declared.outputs.Command.{Command}
use Rattle.writing.specs.Bytes.{bytes_of}
use Rattle.writing.specs.Normal.{OneForm}
use Rattle.writing.specs.Runs.{filled, row_of}
use Rattle.writing.specs.Written.{state_runs, records_before, heads, rows, chain_numbers}

-- answers with the same cell, or none
same_filled : {F G : Type 0} (r : Result (Cell Command) F) (q : Result (Cell Command) G)
    → ((c : Cell Command) → r ≡ Ok c → q ≡ Ok c)
    → ((c : Cell Command) → q ≡ Ok c → r ≡ Ok c) → filled q ≡ filled r
same_filled (Ok c) q f g = ap filled (f c refl)
same_filled (Err e) (Ok d) f g = sym (ap filled (g d refl))
same_filled (Err e) (Err d) f g = refl

module _ (m t : Meaning Command StoredFault) (k : t.inputs ≡ m.inputs) (r : row_of t ≡ row_of m) where
  runs_same : (s : ℕ) → state_runs t s ≡ state_runs m s
  runs_same s = cc

  before_same : (s : ℕ) → records_before t s ≡ records_before m s
  before_same zero = refl
  before_same (suc s) = cc (before_same s, runs_same s)

  heads_same : (s : ℕ) → heads t s ≡ heads m s
  heads_same zero = refl
  heads_same (suc s) = cc (heads_same s, before_same s)

  rows_same : (s : ℕ) → rows t s ≡ rows m s
  rows_same zero = refl
  rows_same (suc s) = cc (rows_same s, before_same s, runs_same s, ap (λ f. f s) r)

  numbers_same : t.states ≡ m.states → t.start ≡ m.start → chain_numbers t ≡ chain_numbers m
  numbers_same n z = cc (before_same m.states, heads_same m.states, rows_same m.states)

pub one_form : OneForm
one_form m t same =
    let r : row_of t ≡ row_of m =
    fun_ext (λ s. fun_ext (λ i. same_filled (m.entry s i) (t.entry s i) (same.cells s i) (same.no_others s i))) in
    ap bytes_of (numbers_same m t same.inputs r same.states same.start)
