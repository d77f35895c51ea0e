-- When an answer at a stage is right: it is the one defined, it says what it should of words, and so do the buffers.
--   RightRound, RightPair, RightMap, RightWord, RightTable     for each kind of call; an answer of another kind is never right
--   Right                                                      for any call: it changes no buffer but its own
use Rattle.std.specs.Prelude.{◌≡◌, ℕ, List, length, ℤ, Result}
use Rattle.machine.specs.declared.Cell.{Cell}
use Rattle.sheet.specs.Means.{RoundMeans, PairMeans, MapMeans, WordMeans, TableMeans}
use Rattle.sheet.specs.Replies.{round_reply, pair_reply, map_reply, map_after, word_reply, word_after}
use Rattle.sheet.specs.Stage.{Stage}
use Rattle.sheet.specs.Tables.{table_reply, next_after, OutputsAfter}
use Rattle.runs.specs.Entries.{Buffers}
use Rattle.runs.specs.declared.Answer.{Answer}
use Rattle.runs.specs.declared.Answer.TheVariants as answer
use Rattle.runs.specs.declared.Call.{Call}
use Rattle.runs.specs.declared.Call.TheVariants as call

abbrev pub RightRound : Stage → Answer → Type 0
RightRound t (answer.Round a) = (a ≡ round_reply t) × RoundMeans t a
RightRound t (answer.Pair a) = ⊥
RightRound t (answer.Map a) = ⊥
RightRound t (answer.Word a) = ⊥
RightRound t (answer.Table a) = ⊥

abbrev pub RightPair : Stage → ℕ → ℕ → Answer → Type 0
RightPair t s u (answer.Round a) = ⊥
RightPair t s u (answer.Pair a) = (a ≡ pair_reply t s u) × PairMeans t s u a
RightPair t s u (answer.Map a) = ⊥
RightPair t s u (answer.Word a) = ⊥
RightPair t s u (answer.Table a) = ⊥

abbrev pub RightMap : Stage → List ℕ → Answer → List ℕ → Type 0
RightMap t before (answer.Round a) after = ⊥
RightMap t before (answer.Pair a) after = ⊥
RightMap t before (answer.Map a) after =
    (a ≡ map_reply t (length before)) × (after ≡ map_after t before) × MapMeans t a after
RightMap t before (answer.Word a) after = ⊥
RightMap t before (answer.Table a) after = ⊥

abbrev pub RightWord : Stage → ℕ → ℕ → List ℕ → Answer → List ℕ → Type 0
RightWord t s u before (answer.Round a) after = ⊥
RightWord t s u before (answer.Pair a) after = ⊥
RightWord t s u before (answer.Map a) after = ⊥
RightWord t s u before (answer.Word a) after =
    (a ≡ word_reply t s u (length before)) × (after ≡ word_after t s u before) × WordMeans t s u a after
RightWord t s u before (answer.Table a) after = ⊥

module _ {O F : Type 0} (key : O → List ℤ) (entry : ℕ → ℕ → Result (Cell O) F) where
  abbrev pub RightTable : Stage → Buffers O → Answer → Buffers O → Type 0
  RightTable t before (answer.Round a) after = ⊥
  RightTable t before (answer.Pair a) after = ⊥
  RightTable t before (answer.Map a) after = ⊥
  RightTable t before (answer.Word a) after = ⊥
  RightTable t before (answer.Table a) after =
      (a ≡ table_reply t (length before.next) (length before.outputs))
      × (after.next ≡ next_after t (length before.outputs) before.next)
      × OutputsAfter entry t a before.outputs after.outputs
      × TableMeans key t a after.next after.outputs

  abbrev pub Right : Stage → Call → Buffers O → Answer → Buffers O → Type 0
  Right t call.Round before a after = RightRound t a × (after ≡ before)
  Right t (call.Pair s u) before a after = RightPair t s u a × (after ≡ before)
  Right t call.Map before a after =
      RightMap t before.numbers a after.numbers × (after.next ≡ before.next) × (after.outputs ≡ before.outputs)
  Right t (call.Word s u) before a after =
      RightWord t s u before.numbers a after.numbers × (after.next ≡ before.next) × (after.outputs ≡ before.outputs)
  Right t call.Table before a after = RightTable t before a after × (after.numbers ≡ before.numbers)
