-- What the entries of all stored forms share.
use Rattle.std.specs.Prelude.{ℕ, Ok, Err, Result}
use Rattle.machine.specs.Causes.{range_test, stored_own}
use Rattle.machine.specs.declared.Cell.{Cell}
use Rattle.machine.specs.declared.faults.Cause.{Cause}
use Rattle.machine.specs.declared.faults.StoredFault.{StoredFault}
use Rattle.machine.specs.declared.outputs.Command.{Command}

-- a cell, and a command
abbrev pub cell : {O F : Type 0} → ℕ → O → Result (Cell O) F
cell next output = Ok (record { next = next; output = output })

abbrev pub command : ℕ → Command
command n = record { number = n }

-- a fault at state s and input i, with its place
abbrev pub fault : {X : Type 0} → Cause → ℕ → ℕ → ℕ → Result X StoredFault
fault c s i p = Err (record { cause = c; state = s; input = i; place = p })

-- the state is one of n, and then the input one of k; what is found so has no place
abbrev pub bounds_test : ℕ → ℕ → ℕ → ℕ → Result (Unit {0}) StoredFault
bounds_test = range_test stored_own
