use Rattle.std.proofs.Common.{◌+◌, ◌<◌, length, arith, rules, lit<}
use Rattle.machine.proofs.Theory.{few_states}
use Rattle.writing.specs.Rows.{cells_in}
use Rattle.writing.proofs.Counts.{length_listed, few_before, before_part, count_is}
use Rattle.writing.proofs.plans.Plan.of.Goals as goal

pub overflow_add-records : goal.overflow_add-records
overflow_add-records g c =
    let at = c.args.machine.now in
    let few = few_before (g.M.Machine.means at) (g.met.M.Machine.sizes at) c.loop-state.state (omega arith) in
    let h : c.loop-state.records + 1 < 65536 = omega (arith, few) in
    search rules

pub push-requires : goal.push-requires
push-requires g c =
    let at = c.args.machine.now in
    let m = g.M.Machine.means at in
    let h : length c.loop-state.heads.items < 128 =
    omega (arith, length_listed m c.loop-state.state _ c.loop-state.invariant.listed, few_states m (g.met.M.Machine.sizes at)) in
    (lit< tt, h)

pub overflow_add-records-in-loop-state : goal.overflow_add-records-in-loop-state
overflow_add-records-in-loop-state g c =
    let at = c.args.machine.now in
    let m = g.M.Machine.means at in
    let s = c.loop-state.state in
    let n = count_is m s _ _ (cells_in c.read.new.self) c.read.ensures.cells c.read.ensures.inputs c.count_runs-records.ensures in
    let few = few_before m (g.met.M.Machine.sizes at) m.states (omega arith) in
    let h : c.loop-state.records + c.count_runs-records.result < 65536 =
    omega (arith, n, before_part m s m.states (omega arith), few) in
    search rules
