-- What a sheet keeps beside its machine: all of it is a function of where the sheet stands.
--   row_at, rows_of        the rows after r rounds that split: those of P 0 to P r, and blank ones
--   Splits                 each of the first r rounds splits
--   KeptAt, KeptAt-prop    what is kept at a stage, which has one proof at most
use Rattle.std.specs.Prelude.{◌≡◌, ℕ, ◌<◌, Bool, true, false, cond, List, map, replicate, nat_lt}
use Rattle.std.proofs.Props.{props}
use Rattle.mealy.specs.Mealy.{Mealy}
use Rattle.mealy.specs.Partitions.{block_count, Settled}
use Rattle.rounds.specs.Rows.{row_of}
use Rattle.std.specs.List.{range_with_len}
use Rattle.sheet.specs.Stage.{Stage}

-- row j after r rounds that split: that of P j, and past P r a row of 0
abbrev pub row_at : Mealy → ℕ → ℕ → List ℕ
row_at m r j = cond (nat_lt r j) (replicate {A = ℕ} 128 0) (row_of m j)

-- all 128 rows
abbrev pub rows_of : Mealy → ℕ → List (List ℕ)
rows_of m r = map (row_at m r) (range_with_len 0 128)

-- each of the first r rounds changes the partition
abbrev pub Splits : Mealy → ℕ → Type 0
Splits m r = (j : ℕ) → j < r → Settled m j → ⊥

-- everything kept is the stage's: the whole of the rows, and nothing of a later partition.
-- The rounds counted have all split, a settled sheet has settled, and that of an unsound machine stays as it was opened
pub record KeptAt (t : Stage) (sound : Bool) (parts : ℕ) (rows : List (List ℕ)) : Type 0 where
  pub sounds : sound ≡ t.sound
  pub holds : rows ≡ rows_of t.machine t.rounds
  pub counts : parts ≡ cond t.sound (block_count t.machine t.rounds) 1
  pub splits : t.sound ≡ true → Splits t.machine t.rounds
  pub settles : t.sound ≡ true → t.settled ≡ true → Settled t.machine t.rounds
  pub idle : t.sound ≡ false → (t.rounds ≡ 0) × (t.settled ≡ false)

pub KeptAt-prop : (t : Stage) (sound : Bool) (parts : ℕ) (rows : List (List ℕ)) → IsProp (KeptAt t sound parts rows)
KeptAt-prop t sound parts rows x y =
    let sounds_prop : IsProp (sound ≡ t.sound) = hlevel props in
    let holds_prop : IsProp (rows ≡ rows_of t.machine t.rounds) = hlevel props in
    let counts_prop : IsProp (parts ≡ cond t.sound (block_count t.machine t.rounds) 1) = hlevel props in
    let splits_prop : IsProp (t.sound ≡ true → Splits t.machine t.rounds) = hlevel props in
    let settles_prop : IsProp (t.sound ≡ true → t.settled ≡ true → Settled t.machine t.rounds) = hlevel props in
    let idle_prop : IsProp (t.sound ≡ false → (t.rounds ≡ 0) × (t.settled ≡ false)) = hlevel props in
    λ i. record {
      sounds = sounds_prop x.sounds y.sounds i;
      holds = holds_prop x.holds y.holds i;
      counts = counts_prop x.counts y.counts i;
      splits = splits_prop x.splits y.splits i;
      settles = settles_prop x.settles y.settles i;
      idle = idle_prop x.idle y.idle i;
    }
