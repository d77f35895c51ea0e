use Rattle.std.proofs.Common.{◌≡◌, suc, ◌+◌, ◌-◌, ◌<◌, length, sym, arith, rules}
use Rattle.writing.specs.Rows.{cells_in}
use Rattle.writing.proofs.RunSteps.{runs_le, count_on, count_end}
use Rattle.writing.proofs.rows.Row.count_runs.Goals as goal
use Rattle.writing.proofs.rows.Row.count_runs.Goals.{then-ends_run, else-ends_run}

pub overflow_add-count : goal.overflow_add-count
overflow_add-count c =
    let k = length c.args.self.now.cells.items in
    let h : c.loop-input.count + 1 < 65536 = omega (arith, runs_le (cells_in c.args.self.now) k 0 0 k, c.len-input-end.ensures.fits) in
    search rules

pub loop-input-preserved : goal.loop-input-preserved
loop-input-preserved c =
    let row = cells_in c.args.self.now in
    let k = length c.args.self.now.cells.items in
    let i = c.loop-input.input in
    let e : k - i ≡ suc (k - (i + 1)) = omega (arith, c.len-input-end.ensures.value) in
    elim c.if-ends_run.branch [
      | then-ends_run w ↦ omega (arith, w.count-is, count_end row k 0 i _ _ e (sym w.if-ends_run.ensures))
      | else-ends_run w ↦ omega (arith, w.count-is, count_on row k 0 i _ _ e (sym w.if-ends_run.ensures))
    ]
