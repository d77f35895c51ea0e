-- A chain's bytes, read as 16-bit numbers, low byte first.
--   number                          the number at a place
--   states, inputs, start, count    the four numbers in front
use Rattle.std.specs.Prelude.{ℕ, ◌+◌, ◌*◌, List, slice_index}

-- the number at place p
abbrev pub number : List ℕ → ℕ → ℕ
number bs p = slice_index bs (2 * p) + 256 * slice_index bs (2 * p + 1)

-- the counts of states and inputs, the start, and the count of records
abbrev pub states : List ℕ → ℕ
states bs = number bs 0

abbrev pub inputs : List ℕ → ℕ
inputs bs = number bs 1

abbrev pub start : List ℕ → ℕ
start bs = number bs 2

abbrev pub count : List ℕ → ℕ
count bs = number bs 3
