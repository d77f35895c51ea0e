use Rattle.std.proofs.Common.{sym, ◌∙◌, arith}
use Rattle.sheet.proofs.Tabling.{some_state, table_filled, front_one}
use Rattle.sheet.proofs.steps.fill.Goals as goal

pub unreachable-requires : goal.unreachable-requires
unreachable-requires g c =
    let found = rw (c.states-n.ensures, c.inputs-k.ensures) at c.first_with.ensures in
    some_state c.requires.blocks.1 c.loop-x.x c.loop-x-test.true (sym found ∙ c.in_default.is)

pub unreachable-requires-in_default-entry : goal.unreachable-requires-in_default-entry
unreachable-requires-in_default-entry g c =
    let found = rw (c.states-n.ensures, c.inputs-k.ensures) at c.first_with.ensures in
    table_filled c.requires.blocks.1 c.loop-x.x c.loop-x-test.true c.in-Some.s (sym found ∙ c.in-Some.is)
    _ (sym (rw c.inputs-k.ensures at c.in_default-entry.ensures))

pub loop-x-preserved : goal.loop-x-preserved
loop-x-preserved g c j blocks =
    let found = rw (c.states-n.ensures, c.inputs-k.ensures) at c.first_with.ensures in
    rw c.from.ensures
    (front_one blocks c.loop-x.x c.loop-x-test.true c.in-Some.s (sym found ∙ c.in-Some.is)
    (g.met.M.Machine.closed c.args.machine.now) c.in-Ok.cell (sym (rw c.inputs-k.ensures at c.in-Ok.ensures)) (omega arith) (omega arith) (c.loop-x.invariant j blocks))
