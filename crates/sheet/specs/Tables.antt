-- The table: what is answered and written, and the machine that two lists are.
--   cell_count, table_reply   how many cells the table has, and the answer
--   next_after                the list of next classes
--   output_of, OutputsAfter   the list of outputs
--   key_at, table_mealy       two lists as a machine
use Rattle.std.specs.Prelude.{◌≡◌, ℕ, ◌+◌, ◌*◌, ◌/◌, ◌%◌, ◌<◌, cond, List, [], ◌++◌, map, length, drop, ℤ, Some, None, Ok, Err, Option, Result, nat_lt, slice_index}
use Rattle.machine.specs.declared.Cell.{Cell}
use Rattle.mealy.specs.Mealy.{Mealy}
use Rattle.mealy.specs.Partitions.{block, block_count}
use Rattle.mealy.specs.Reduced.{leader_of, reduced}
use Rattle.std.specs.List.{slice_get, range_with_len}
use Rattle.sheet.specs.declared.answers.Refusal.{Refusal}
use Rattle.sheet.specs.declared.answers.Refusal.TheVariants as refusal
use Rattle.sheet.specs.declared.answers.Table.{Table}
use Rattle.sheet.specs.declared.answers.TableBuffer.TheVariants as buffer
use Rattle.sheet.specs.Replies.{when_sound}
use Rattle.sheet.specs.Stage.{Stage, if_ok}

-- a cell for each class and input
abbrev pub cell_count : Stage → ℕ
cell_count t = block_count t.machine t.rounds * t.machine.inputs

-- the count of classes, and the class of the start
abbrev pub table_of : Stage → Table
table_of t = record {
  classes = block_count t.machine t.rounds;
  start = block t.machine t.rounds t.start;
}

-- the answer of a sound machine to buffers of so many places
abbrev pub table_when : Stage → ℕ → ℕ → Result Table Refusal
table_when t nexts outs =
    cond t.settled
    (cond (nat_lt nexts (cell_count t)) (Err (refusal.ShortTable buffer.Next))
    (cond (nat_lt outs (cell_count t)) (Err (refusal.ShortTable buffer.Outputs)) (Ok (table_of t))))
    (Err refusal.Unsettled)

abbrev pub table_reply : Stage → ℕ → ℕ → Result Table Refusal
table_reply t nexts outs = when_sound t (table_when t nexts outs)

-- the next class of the cell at place x: class x / k at input x % k
abbrev pub next_at : Mealy → ℕ → ℕ → ℕ
next_at m j x = (reduced m j).next (x / m.inputs) (x % m.inputs)

-- the next classes in front, and what stood behind them
abbrev pub next_after : Stage → ℕ → List ℕ → List ℕ
next_after t outs before =
    if_ok (table_reply t (length before) outs)
    (map (next_at t.machine t.rounds) (range_with_len 0 (cell_count t)) ++ drop (cell_count t) before) before

-- what an entry puts out
abbrev pub output_of : {O F : Type 0} → Result (Cell O) F → Option O
output_of (Ok c) = Some c.output
output_of (Err f) = None

-- the first n outputs are those of the classes' lowest states, and the rest is as it was
pub record OutputsWritten {O F : Type 0} (entry : ℕ → ℕ → Result (Cell O) F) (m : Mealy) (j n : ℕ) (before after : List O) : Type 0 where
  pub written : (x : ℕ) → x < n → slice_get after x ≡ output_of (entry (leader_of m j (x / m.inputs)) (x % m.inputs))
  pub rest : drop n after ≡ drop n before
  pub size : length after ≡ length before

-- the outputs in front, and what stood behind them
abbrev pub OutputsAfter : {O F : Type 0} → (ℕ → ℕ → Result (Cell O) F) → Stage → Result Table Refusal → List O → List O → Type 0
OutputsAfter entry t (Ok a) before after = OutputsWritten entry t.machine t.rounds (cell_count t) before after
OutputsAfter entry t (Err e) before after = after ≡ before

-- the key of an output, if one is there
abbrev pub key_at : {O : Type 0} → (O → List ℤ) → Option O → List ℤ
key_at key (Some o) = key o
key_at key None = []

-- two lists as a machine of c states and k inputs
abbrev pub table_mealy : {O : Type 0} → (O → List ℤ) → ℕ → ℕ → List ℕ → List O → Mealy
table_mealy key c k next outs = record {
  states = c;
  inputs = k;
  next = λ s i. slice_index next (s * k + i);
  key = λ s i. key_at key (slice_get outs (s * k + i));
}
