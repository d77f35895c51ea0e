use Rattle.std.proofs.Common.{sym, arith}
use Rattle.rounds.proofs.Passes.{every_not, every_more}
use Rattle.rounds.proofs.Numbering.joins_everywhere.Goals as goal

pub returns-then-not-joins_at : goal.returns-then-not-joins_at
returns-then-not-joins_at g c =
    sym (every_not (g.M.Machine.means c.args.self.now.machine.now).inputs _ c.loop-i.i (omega (arith, c.inputs-i-end.ensures)) (sym c.if-not-joins_at.ensures))

pub loop-i-preserved : goal.loop-i-preserved
loop-i-preserved g c = every_more c.loop-i.i _ c.loop-i.invariant (sym c.if-not-joins_at.ensures)
