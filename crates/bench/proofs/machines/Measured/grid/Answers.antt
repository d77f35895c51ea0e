use Rattle.std.proofs.Common.{[]}
use Rattle.bench.specs.Tables.{next_row, command_row}
use Rattle.bench.proofs.Rows.{one_more_lem}
use Rattle.bench.proofs.machines.Measured.grid.Goals as goal

pub loop-state-preserved : goal.loop-state-preserved
loop-state-preserved c = (
  one_more_lem [] _ _ (next_row c.args.self.inputs) c.loop-state.state c.loop-state.invariant.0 c.in_ok-push_row.ensures.nexts,
  one_more_lem [] _ _ (command_row c.args.self.case c.args.self.inputs) c.loop-state.state c.loop-state.invariant.1 c.in_ok-push_row.ensures.commands,
)
