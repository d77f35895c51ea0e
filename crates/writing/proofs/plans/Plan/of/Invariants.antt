use Rattle.std.proofs.Common.{◌≡◌}
use Rattle.writing.specs.Written.{records_before, heads}
use Rattle.writing.proofs.plans.Plan.of.Given as goal

abbrev pub invariant-loop-state : goal.invariant-loop-state
invariant-loop-state g l = record {
  listed : l.heads.items ≡ heads (g.M.Machine.means l.machine) l.state;
  counted : l.records ≡ records_before (g.M.Machine.means l.machine) l.state;
}
