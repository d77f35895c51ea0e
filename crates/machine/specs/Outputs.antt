-- Outputs in words.
use Rattle.std.specs.Prelude.{ℕ, List, ◌++◌, codes, decimal}
use Rattle.std.specs.Fmt.{signed_decimal}
use Rattle.machine.specs.declared.outputs.Command.{Command}
use Rattle.machine.specs.declared.outputs.WheelMove.{WheelMove}

-- a command is written as its number
abbrev pub command_text : Command → List ℕ
command_text c = decimal c.number

-- a move as its offsets
abbrev pub wheel_text : WheelMove → List ℕ
wheel_text w = signed_decimal w.lift ++ (codes "/" ++ (signed_decimal w.gamma ++ (codes "/" ++ signed_decimal w.gain)))
