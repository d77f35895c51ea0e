-- How a meaning becomes a machine of the theory, and soundness as a test.
--   next_of, key_of   where an entry leads, and the key of what it puts out
--   mealy_of          the complete machine that a sound meaning is
--   sound_by          whether a meaning is sound, computed
use Rattle.std.specs.Prelude.{ℕ, Bool, ◌&&◌, List, [], ℤ, is_ok, Ok, Err, Result, nat_lt}
use Rattle.machine.specs.Meaning.{Meaning}
use Rattle.machine.specs.declared.Cell.{Cell}
use Rattle.mealy.specs.Below.{every}
use Rattle.mealy.specs.Mealy.{Mealy}

module _ {O F : Type 0} where
  -- the next state of a cell; a fault has none, and counts as 0
  abbrev pub next_of : Result (Cell O) F → ℕ
  next_of (Ok c) = c.next
  next_of (Err f) = 0

  -- the key of a cell's output; a fault has none, and counts as the empty key
  abbrev pub key_of : (O → List ℤ) → Result (Cell O) F → List ℤ
  key_of key (Ok c) = key c.output
  key_of key (Err f) = []

  -- the machine of a meaning: the start is no part of it
  abbrev pub mealy_of : (O → List ℤ) → Meaning O F → Mealy
  mealy_of key m = record {
    states = m.states;
    inputs = m.inputs;
    next = λ s i. next_of (m.entry s i);
    key = λ s i. key_of key (m.entry s i);
  }

  -- state s has a cell at every input
  abbrev pub filled_row : Meaning O F → ℕ → Bool
  filled_row m s = every m.inputs (λ i. is_ok (m.entry s i))

  -- there is a state, and every cell
  abbrev pub sound_by : Meaning O F → Bool
  sound_by m = nat_lt 0 m.states && every m.states (filled_row m)
