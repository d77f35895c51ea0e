use Rattle.std.proofs.Common.{arith}
use Rattle.machine.proofs.checks.check.Goals as goal

-- a misfit has no cell
pub unreachable-requires : goal.unreachable-requires
unreachable-requires g c =
    let m = c.args.machine.now in
    let h = g.met.M.Machine.inside m 0 0 c.in_default.field-0 cc in
    omega arith
