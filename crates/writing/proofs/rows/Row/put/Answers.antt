use Rattle.std.proofs.Common.{◌≡◌, suc, ◌+◌, ◌-◌, length, slice_index_or, sym, ap, ◌∙◌, arith}
use Rattle.writing.specs.Rows.{cells_in}
use Rattle.writing.specs.Runs.{no_cell, runs}
use Rattle.writing.specs.Written.{link_to}
use Rattle.writing.proofs.RunSteps.{link_none, link_some, stands_as, stands_on, stands_end}
use Rattle.writing.proofs.rows.Row.put.Goals as goal
use Rattle.writing.proofs.rows.Row.put.Goals.{then-ends_run, then-to-inputs, else-to-inputs, else-ends_run}

pub loop-to-preserved : goal.loop-to-preserved
loop-to-preserved c =
    let row = cells_in c.args.self.now in
    let k = length c.args.self.now.cells.items in
    let a = c.loop-to.from in
    let i = c.loop-to.to in
    let m = k - (i + 1) in
    let r = c.loop-to.number in
    let e : k - i ≡ suc m = omega (arith, c.len-inputs.ensures.value) in
    elim c.if-ends_run.branch [
      | then-ends_run w ↦
          let link : w.if-to-inputs.link ≡ link_to (r + 1) (runs row k (i + 1) (i + 1) m) =
          elim w.if-to-inputs.branch [
            | then-to-inputs u ↦ u.link-is ∙ link_none row k (i + 1) (i + 1) m (r + 1) (omega (arith, u.if-to-inputs.true, c.len-inputs.ensures.value))
            | else-to-inputs u ↦ u.link-is ∙ link_some row k (i + 1) (i + 1) m (k - (i + 2)) (r + 1)
                (omega (arith, u.if-to-inputs.false, c.len-inputs.ensures.value)) (omega (arith, c.len-inputs.ensures.value))
          ] in
          let cell = ap (λ xs. slice_index_or xs a no_cell) w.deref.ensures.0 in
          stands_as row k _ _ _ _ _ _ _ _ _ _ _ w.out-is w.from-is w.number-is
          (stands_end row k c.args.states c.args.first c.args.out.now c.loop-to.out a i (k - i) m r e c.loop-to.invariant
          w.put.new.out w.record_place.result w.if-to-inputs.link (slice_index_or w.deref.result.now a no_cell)
          (sym w.if-ends_run.ensures) c.requires.some cell w.record_place.ensures link w.put.ensures)
      | else-ends_run w ↦ stands_as row k _ _ _ _ _ _ _ _ _ _ _ w.out-is w.from-is w.number-is
          (stands_on row k c.args.states c.args.first c.args.out.now c.loop-to.out a i (k - i) m r e c.loop-to.invariant
          (sym w.if-ends_run.ensures))
    ]
