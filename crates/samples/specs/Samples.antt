-- What small machines are written down by.
--   a_cell       a cell with a command
--   a_fault      a fault of a stored form
--   bytes_text   numbers as bytes
use Rattle.std.specs.Int.{to_le_bytes, w16}
use Rattle.std.specs.Prelude.{ℕ, List}
use Rattle.std.specs.List.{flat_map}
use Rattle.machine.specs.declared.Cell.{Cell}
use Rattle.machine.specs.declared.outputs.Command.{Command}
use Rattle.machine.specs.declared.faults.Cause.{Cause}
use Rattle.machine.specs.declared.faults.StoredFault.{StoredFault}
use Rattle.forms.specs.Entries.{command}

abbrev pub a_cell : ℕ → ℕ → Cell Command
a_cell next number = record { next = next; output = command number }

abbrev pub a_fault : Cause → ℕ → ℕ → ℕ → StoredFault
a_fault cause state input place = record { cause = cause; state = state; input = input; place = place }

-- each number in two bytes, the low one first
abbrev pub bytes_text : List ℕ → List ℕ
bytes_text ns = flat_map (to_le_bytes w16) ns
