use Rattle.std.proofs.Common.{◌≡◌, vec_items}
use Rattle.bench.specs.Tables.{up_to, next_row, command_row}
use Rattle.bench.proofs.machines.Measured.grid.Given as goal

-- the rows before this state are added
abbrev pub invariant-loop-state : goal.invariant-loop-state
invariant-loop-state l =
    (vec_items l.next ≡ up_to (next_row l.self.inputs) l.state)
    × (vec_items l.outputs ≡ up_to (command_row l.self.case l.self.inputs) l.state)
