-- What the loops behind the calls do, of sound machines.
--   Apart, Spelt             two states that a partition taken sets apart, and their word written
--   Blocks, Front, Tabled    a row that holds a partition, and the cells of the classes written
use Rattle.std.specs.Prelude.{◌≡◌, ℕ, ◌*◌, ◌<◌, ◌≤◌, true, false, List, ◌++◌, length, drop, ℤ, slice_index}
use Rattle.machine.specs.Meaning.{Meaning}
use Rattle.machine.specs.Theory.{mealy_of, sound_by}
use Rattle.mealy.specs.FirstWord.{first_word}
use Rattle.mealy.specs.Partitions.{share, block_count}
use Rattle.rounds.specs.Rows.{Numbered}
use Rattle.sheet.specs.Stage.{Stage}
use Rattle.sheet.specs.Tables.{next_at, OutputsWritten}

-- the partition P j has been taken, and sets the two states apart
pub record Apart (t : Stage) (j s u : ℕ) : Type 0 where
  pub sound : t.sound ≡ true
  pub left : s < t.machine.states
  pub right : u < t.machine.states
  pub taken : j ≤ t.rounds
  pub apart : share t.machine j s u ≡ false

-- the word of two such states in front, and what stood behind it
abbrev pub Spelt : Stage → ℕ → ℕ → ℕ → List ℕ → List ℕ → Type 0
Spelt t j s u before after =
    let word : List ℕ = first_word t.machine j s u in
    after ≡ word ++ drop (length word) before

module _ {O F : Type 0} (key : O → List ℤ) (m : Meaning O F) where
  -- a row with the numbers of P j of a sound machine, whose blocks have so many cells
  pub record Blocks (row : List ℕ) (j total : ℕ) : Type 0 where
    pub sound : sound_by m ≡ true
    pub held : Numbered (mealy_of key m) j row
    pub all : total ≡ block_count (mealy_of key m) j * m.inputs

  -- the first x cells of the machine of the blocks of P j written, and nothing behind them
  pub record Front (j x : ℕ) (next : List ℕ) (outs : List O) (next' : List ℕ) (outs' : List O) : Type 0 where
    pub nexts : (y : ℕ) → y < x → slice_index next' y ≡ next_at (mealy_of key m) j y
    pub next_rest : drop x next' ≡ drop x next
    pub next_size : length next' ≡ length next
    pub outputs : OutputsWritten m.entry (mealy_of key m) j x outs outs'

  -- from such a row, all its cells are written
  abbrev pub Tabled : List ℕ → ℕ → List ℕ → List O → List ℕ → List O → Type 0
  Tabled row total next outs next' outs' = (j : ℕ) → Blocks row j total → Front j total next outs next' outs'
