-- What the answers say of words, of equivalence and of smallest machines.
--   RoundMeans, SettleMeans   when rounds settle, and what that says
--   PairMeans, MapMeans       which states are told apart so far
--   WordMeans                 the word handed out
--   TableMeans               the table handed out
use Rattle.std.specs.Prelude.{◌≡◌, ℕ, ◌+◌, ◌-◌, ◌<◌, ◌≤◌, true, ◌↔◌, List, length, take, ℤ, Ok, Err, Result, slice_index}
use Rattle.mealy.specs.FirstWord.{Shortest}
use Rattle.mealy.specs.Mealy.{Mealy}
use Rattle.mealy.specs.Partitions.{Settled}
use Rattle.mealy.specs.Reduced.{Smallest}
use Rattle.mealy.specs.Words.{Tells, EquivalentFor, Equivalent}
use Rattle.sheet.specs.declared.answers.Pair.{Pair}
use Rattle.sheet.specs.declared.answers.Pair.TheVariants as pairs
use Rattle.sheet.specs.declared.answers.Refusal.{Refusal}
use Rattle.sheet.specs.declared.answers.Refusal.TheVariants as refusal
use Rattle.sheet.specs.declared.answers.Round.{Round}
use Rattle.sheet.specs.declared.answers.Round.TheVariants as round
use Rattle.sheet.specs.declared.answers.Settling.{Settling}
use Rattle.sheet.specs.declared.answers.Table.{Table}
use Rattle.sheet.specs.Replies.{pair_reply}
use Rattle.sheet.specs.Stage.{Stage}
use Rattle.sheet.specs.Tables.{table_mealy}

-- states that no word of at most r inputs tells apart are told apart by none
abbrev pub NoneLonger : Mealy → ℕ → Type 0
NoneLonger m r = (s u : ℕ) → s < m.states → u < m.states → EquivalentFor m r s u → Equivalent m m s u

-- a round that splits changes the partition, and is not the one numbered like the count of states;
-- one that settles is that one at the latest, and no longer word tells more states apart
abbrev pub RoundMeans : Stage → Result Round Refusal → Type 0
RoundMeans t (Ok (round.Split c)) = (Settled t.machine t.rounds → ⊥) × (t.rounds + 1 < t.machine.states)
RoundMeans t (Ok (round.Settled c)) =
    Settled t.machine t.rounds × (t.rounds + 1 ≤ t.machine.states) × NoneLonger t.machine t.rounds
RoundMeans t (Err e) = Unit {0}

-- the same of the last of the rounds that settling took
abbrev pub SettleMeans : Stage → Result Settling Refusal → Type 0
SettleMeans t (Ok a) =
    let last : ℕ = t.rounds + (a.rounds - 1) in
    Settled t.machine last × (last + 1 ≤ t.machine.states) × NoneLonger t.machine last
SettleMeans t (Err e) = Unit {0}

-- apart: within the rounds that split, a word of so many inputs tells the states apart, and no shorter one;
-- together: none of as many inputs as rounds have split; equivalent: none of any length
abbrev pub PairMeans : Stage → ℕ → ℕ → Result Pair Refusal → Type 0
PairMeans t s u (Ok (pairs.Apart j)) =
    (j ≤ t.rounds)
    × ((w : List ℕ) × ((length w ≡ j) × Tells t.machine t.machine s u w))
    × ((v : List ℕ) → Tells t.machine t.machine s u v → j ≤ length v)
PairMeans t s u (Ok pairs.Together) = EquivalentFor t.machine t.rounds s u
PairMeans t s u (Ok pairs.Equivalent) = Equivalent t.machine t.machine s u
PairMeans t s u (Err e) = Unit {0}

-- two places are equal exactly where no word of as many inputs as rounds have split tells the states apart,
-- and on a settled sheet exactly where none of any length does
abbrev pub MapMeans : {U : Type 0} → Stage → Result U Refusal → List ℕ → Type 0
MapMeans t (Ok x) after =
    ((s u : ℕ) → s < t.machine.states → u < t.machine.states
    → (slice_index after s ≡ slice_index after u) ↔ EquivalentFor t.machine t.rounds s u)
    × (t.settled ≡ true → (s u : ℕ) → s < t.machine.states → u < t.machine.states
    → (slice_index after s ≡ slice_index after u) ↔ Equivalent t.machine t.machine s u)
MapMeans t (Err e) after = Unit {0}

-- the word written has so many inputs, as many as the pair answers, tells the states apart,
-- and every other word that does is longer, or as long and later in dictionary order
pub record Handed (t : Stage) (s u n : ℕ) (after : List ℕ) : Type 0 where
  pub size : length (take n after) ≡ n
  pub first : Shortest t.machine s u (take n after)
  pub paired : pair_reply t s u ≡ Ok (pairs.Apart n)

abbrev pub WordMeans : Stage → ℕ → ℕ → Result ℕ Refusal → List ℕ → Type 0
WordMeans t s u (Ok n) after = Handed t s u n after
WordMeans t s u (Err refusal.NotApart) after =
    EquivalentFor t.machine t.rounds s u × (t.settled ≡ true → Equivalent t.machine t.machine s u)
WordMeans t s u (Err refusal.Unsound) after = Unit {0}
WordMeans t s u (Err refusal.AlreadySettled) after = Unit {0}
WordMeans t s u (Err refusal.NoSuchState) after = Unit {0}
WordMeans t s u (Err refusal.Unsettled) after = Unit {0}
WordMeans t s u (Err (refusal.Short n)) after = (v : List ℕ) → Tells t.machine t.machine s u v → n ≤ length v
WordMeans t s u (Err (refusal.ShortTable b)) after = Unit {0}

-- the two lists, as a machine, are complete and equivalent to the sheet's, no such machine has fewer states,
-- and the class of the start is equivalent to the start
abbrev pub TableMeans : {O : Type 0} → (O → List ℤ) → Stage → Result Table Refusal → List ℕ → List O → Type 0
TableMeans key t (Ok a) next outs =
    let table : Mealy = table_mealy key a.classes t.machine.inputs next outs in
    Smallest t.machine table × Equivalent t.machine table t.start a.start
TableMeans key t (Err e) next outs = Unit {0}
