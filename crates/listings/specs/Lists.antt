-- A reduction in plain lists.
--   Lists                    everything that is listed
--   command_key, number_at   a command's key, and the number of an output
--   lists_in, lists_of       what is kept of a reduction, and what a machine gives
use Rattle.std.specs.Prelude.{ℕ, List, [], ◌∷◌, map, ℤ, pos, Some, None, vec_items, Option}
use Rattle.std.specs.List.{range_with_len}
use Rattle.machine.specs.Meaning.{Meaning}
use Rattle.machine.specs.declared.outputs.Command.{Command}
use Rattle.mealy.specs.Partitions.{blocks}
use Rattle.reductions.specs.Aparts.{Parting, apart_of, aparts_of}
use Rattle.reductions.specs.Reductions.{leaders_of, output_at, settled_stage, settling_of}
use Rattle.reductions.specs.declared.Reduction.{Reduction}
use Rattle.sheet.specs.Stage.{Stage}
use Rattle.sheet.specs.Tables.{cell_count, next_at, table_of}
use Rattle.sheet.specs.declared.answers.Settling.{Settling}
use Rattle.sheet.specs.declared.answers.Table.{Table}

-- the counts and the start of a machine; how it settled, its classes, the class of each state, the table by places,
-- and each two classes' word
pub record Lists : Type 0 where
  pub states : ℕ
  pub inputs : ℕ
  pub start : ℕ
  pub settling : Settling
  pub table : Table
  pub numbering : List ℕ
  pub next : List ℕ
  pub outputs : List ℕ
  pub aparts : List Parting

-- a command is its own key
abbrev pub command_key : Command → List ℤ
command_key c = pos c.number ∷ []

-- a command's number; where there is no output, 0
abbrev pub number_at : Option Command → ℕ
number_at (Some c) = c.number
number_at None = 0

-- what is kept of a reduction
abbrev pub lists_in : Reduction Command → Lists
lists_in x = record {
  states = x.states;
  inputs = x.inputs;
  start = x.start;
  settling = x.settling;
  table = x.table;
  numbering = vec_items x.map;
  next = vec_items x.next;
  outputs = map (λ (c : Command). c.number) (vec_items x.outputs);
  aparts = map apart_of (vec_items x.aparts);
}

-- what a machine gives
abbrev pub lists_of : {F : Type 0} → Meaning Command F → Lists
lists_of m =
    let t : Stage = settled_stage command_key m in
    record {
      states = m.states;
      inputs = m.inputs;
      start = m.start;
      settling = settling_of t;
      table = table_of t;
      numbering = blocks t.machine t.rounds;
      next = map (next_at t.machine t.rounds) (range_with_len 0 (cell_count t));
      outputs = map (λ x. number_at (output_at m.entry t x)) (range_with_len 0 (cell_count t));
      aparts = aparts_of t.machine t.rounds (leaders_of t);
    }
