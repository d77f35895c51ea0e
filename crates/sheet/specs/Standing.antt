-- Where a sheet stands.
use Rattle.machine.specs.declared.Machine as machines
use Rattle.machine.specs.declared.faults.Fault as faults
use Rattle.machine.specs.declared.outputs.Output as outputs
use Rattle.sheet.specs.declared.Sheet.{Sheet}
use Rattle.sheet.specs.Stage.{Stage, stage_at}

-- by what its own machine means
abbrev pub stage_of : {M O F : Type 0} {g : machines.Ghosts M O F} {o : outputs.Ghosts O} {f : faults.Ghosts F} → Sheet M O F g o f → Stage
stage_of {M} {O} {F} {g} {o} s = stage_at o.key (g.means s.machine) s.rounds s.settled
