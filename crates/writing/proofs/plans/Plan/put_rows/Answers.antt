use Rattle.std.proofs.Common.{◌≡◌, length, refl, ◌∙◌, arith}
use Rattle.writing.specs.Rows.{cells_in}
use Rattle.writing.proofs.Counts.{length_listed, few_before, before_part, count_is, head_in, rows_more}
use Rattle.writing.proofs.plans.Plan.put_rows.Goals as goal

pub put-requires : goal.put-requires
put-requires g c =
    let at = c.args.self.now.machine.now in
    let m = g.M.Machine.means at in
    let s = c.loop-state.state in
    let h = head_in m s _ (c.deref-head-items.ensures.0 ∙ c.args.self.now.heads_are) (omega arith) in
    let n = count_is m s _ _ (cells_in c.read.new.self) c.read.ensures.cells c.read.ensures.inputs refl in
    let part = before_part m s m.states h.0 in
    let few = few_before m (g.met.M.Machine.sizes at) m.states (omega arith) in
    record {
      some = omega (arith, h.1);
      counted = omega (arith, h.1, n, part, few);
      room = omega (arith, h.1, n, part, c.requires);
    }

pub loop-state-preserved : goal.loop-state-preserved
loop-state-preserved g c =
    let m = g.M.Machine.means c.args.self.now.machine.now in
    let s = c.loop-state.state in
    let h = head_in m s _ (c.deref-head-items.ensures.0 ∙ c.args.self.now.heads_are) (omega arith) in
    rows_more m s (length c.read.new.self.cells.items) c.states-states.result _ (cells_in c.read.new.self)
    c.args.out.now c.loop-state.out c.put.new.out
    c.read.ensures.cells c.read.ensures.inputs h.1 c.loop-state.invariant c.put.ensures

pub returns : goal.returns
returns g c =
    let m = g.M.Machine.means c.args.self.now.machine.now in
    let s = c.loop-state.state in
    let long = length_listed m m.states _ (c.deref-head-items.ensures.0 ∙ c.args.self.now.heads_are) in
    let e : s ≡ m.states = omega arith in
    cc
