-- A machine reduced.
--   settled_stage, leaders_of   where its sheet stands once it has settled, and the lowest state of each class then
--   output_at                   the output at a place of the table
--   HandedTable                 a table handed out, in lists
--   IsReduction                 everything that is handed out
--   Reduced                     the answer: a reduction, the refusal of the check, or of a sound machine want of memory
use Rattle.std.specs.Prelude.{◌≡◌, ℕ, ◌+◌, ◌/◌, ◌%◌, ◌<◌, true, List, map, ℤ, Some, Ok, Err, vec_items, Option, Result, slice_index}
use Rattle.std.specs.List.{range_with_len}
use Rattle.machine.specs.Checks.{Checked}
use Rattle.machine.specs.Meaning.{Meaning, Sound}
use Rattle.machine.specs.Theory.{mealy_of}
use Rattle.machine.specs.declared.Cell.{Cell}
use Rattle.mealy.specs.FirstWord.{Shortest, word_of}
use Rattle.mealy.specs.Partitions.{blocks, block_count}
use Rattle.mealy.specs.Reduced.{leader_of, Smallest}
use Rattle.mealy.specs.Words.{Equivalent}
use Rattle.sheet.specs.Replies.{splits_in_all}
use Rattle.sheet.specs.Stage.{Stage, stage_at}
use Rattle.sheet.specs.Tables.{cell_count, next_at, output_of, table_of, table_mealy}
use Rattle.sheet.specs.declared.answers.Settling.{Settling}
use Rattle.sheet.specs.declared.answers.Table.{Table}
use Rattle.reductions.specs.Aparts.{apart_of, aparts_of}
use Rattle.reductions.specs.declared.Reduction.{Reduction}
use Rattle.reductions.specs.declared.Unreduced.{Unreduced}
use Rattle.reductions.specs.declared.Unreduced.TheVariants as unreduced

-- the lowest state of each class
abbrev pub leaders_of : Stage → List ℕ
leaders_of t = map (leader_of t.machine t.rounds) (range_with_len 0 (block_count t.machine t.rounds))

-- the output at place x of a table: that of class x / k, by its lowest state, at input x % k
abbrev pub output_at : {O F : Type 0} → (ℕ → ℕ → Result (Cell O) F) → Stage → ℕ → Option O
output_at entry t x =
    output_of (entry (leader_of t.machine t.rounds (x / t.machine.inputs)) (x % t.machine.inputs))

-- the table that a settled sheet hands out: it is the smallest machine, and its start is equivalent to the start
pub record HandedTable {O F : Type 0} (key : O → List ℤ) (entry : ℕ → ℕ → Result (Cell O) F) (t : Stage) (table : Table) (nexts : List ℕ) (outs : List O) : Type 0 where
  pub answer : table ≡ table_of t
  pub next : nexts ≡ map (next_at t.machine t.rounds) (range_with_len 0 (cell_count t))
  pub outputs : map Some outs ≡ map (output_at entry t) (range_with_len 0 (cell_count t))
  pub smallest : Smallest t.machine (table_mealy key table.classes t.machine.inputs nexts outs)
  pub starts : Equivalent t.machine (table_mealy key table.classes t.machine.inputs nexts outs) t.start table.start

-- the sheet of a machine once it has settled
abbrev pub settled_stage : {O F : Type 0} → (O → List ℤ) → Meaning O F → Stage
settled_stage key m = stage_at key m (splits_in_all (mealy_of key m)) true

-- the rounds that settling takes, the last of which changes nothing, and the count of blocks then
abbrev pub settling_of : Stage → Settling
settling_of t = record { rounds = t.rounds + 1; count = block_count t.machine t.rounds }

module _ {O F : Type 0} (key : O → List ℤ) (m : Meaning O F) where
  -- everything that the settled sheet hands out: its table is the smallest machine, and each word the first of the shortest
  pub record IsReduction (x : Reduction O) : Type 0 where
    pub sound : Sound m
    pub states : x.states ≡ m.states
    pub inputs : x.inputs ≡ m.inputs
    pub start : x.start ≡ m.start
    pub settling : x.settling ≡ settling_of (settled_stage key m)
    pub numbering : vec_items x.map ≡ blocks (mealy_of key m) (splits_in_all (mealy_of key m))
    pub handed : HandedTable key m.entry (settled_stage key m) x.table (vec_items x.next) (vec_items x.outputs)
    pub aparts : map apart_of (vec_items x.aparts) ≡ aparts_of (mealy_of key m) (splits_in_all (mealy_of key m)) (leaders_of (settled_stage key m))
    pub shortest : let leaders : List ℕ = leaders_of (settled_stage key m) in
        (a b : ℕ) → a < b → b < x.table.classes → Shortest (mealy_of key m) (slice_index leaders a) (slice_index leaders b)
        (word_of (mealy_of key m) (splits_in_all (mealy_of key m)) (slice_index leaders a) (slice_index leaders b))

  -- a machine that is not sound is refused as such, even where memory is short
  abbrev pub Reduced : Result (Reduction O) (Unreduced F) → Type 0
  Reduced (Ok x) = IsReduction x
  Reduced (Err (unreduced.Unsound e)) = Checked {U = Unit {0}} m (Err e)
  Reduced (Err unreduced.NoMemory) = Sound m
