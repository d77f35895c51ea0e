-- Buffers before a call.
--   byte_at, number_at, command_at, move_at   what stands at a place
use Rattle.std.specs.Prelude.{ℕ, ◌-◌, ◌%◌, pos, negsuc}
use Rattle.machine.specs.declared.outputs.Command.{Command}
use Rattle.machine.specs.declared.outputs.WheelMove.{WheelMove}

abbrev pub byte_at : ℕ → ℕ
byte_at p = 255 - p % 256

abbrev pub number_at : ℕ → ℕ
number_at p = 65535 - p

abbrev pub command_at : ℕ → Command
command_at p = record { number = number_at p }

-- places past 16,383 repeat
abbrev pub move_at : ℕ → WheelMove
move_at p = record { lift = pos (p % 16384); gamma = negsuc (p % 16384); gain = pos 7 }
