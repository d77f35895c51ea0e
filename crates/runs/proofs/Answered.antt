-- Each call's answer is right for a call that is it.
use Rattle.std.proofs.Common.{◌≡◌, ℕ, List, length, ℤ, Result, sym, refl, subst}
use Rattle.machine.specs.declared.Cell.{Cell}
use Rattle.sheet.specs.Means.{RoundMeans, PairMeans, MapMeans, WordMeans, TableMeans}
use Rattle.sheet.specs.Replies.{round_reply, pair_reply, map_reply, map_after, word_reply, word_after}
use Rattle.sheet.specs.Stage.{Stage}
use Rattle.sheet.specs.Tables.{table_reply, next_after, OutputsAfter}
use Rattle.sheet.specs.declared.answers.Pair.{Pair}
use Rattle.sheet.specs.declared.answers.Refusal.{Refusal}
use Rattle.sheet.specs.declared.answers.Round.{Round}
use Rattle.sheet.specs.declared.answers.Table.{Table}
use Rattle.runs.specs.Entries.{Buffers, buffers}
use Rattle.runs.specs.Right.{Right}
use Rattle.runs.specs.declared.Answer.TheVariants as answer
use Rattle.runs.specs.declared.Call.{Call}
use Rattle.runs.specs.declared.Call.TheVariants as call

module _ {O F : Type 0} (key : O → List ℤ) (entry : ℕ → ℕ → Result (Cell O) F) (t : Stage) (k : Call) where
  pub right_round : k ≡ call.Round → (b : Buffers O) (a : Result Round Refusal) → a ≡ round_reply t → RoundMeans t a
      → Right key entry t k b (answer.Round a) b
  right_round e b a h w = subst (λ (x : Call). Right key entry t x b (answer.Round a) b) (sym e) ((h, w), refl)

  pub right_pair : (s u : ℕ) → k ≡ call.Pair s u → (b : Buffers O) (a : Result Pair Refusal) → a ≡ pair_reply t s u
      → PairMeans t s u a → Right key entry t k b (answer.Pair a) b
  right_pair s u e b a h w = subst (λ (x : Call). Right key entry t x b (answer.Pair a) b) (sym e) ((h, w), refl)

  pub right_map : k ≡ call.Map → (before after next : List ℕ) (outs : List O) (a : Result (Unit {0}) Refusal)
      → a ≡ map_reply t (length before) → after ≡ map_after t before → MapMeans t a after
      → Right key entry t k (buffers before next outs) (answer.Map a) (buffers after next outs)
  right_map e before after next outs a h b w =
      subst (λ (x : Call). Right key entry t x (buffers before next outs) (answer.Map a) (buffers after next outs)) (sym e) ((h, b, w), refl, refl)

  pub right_word : (s u : ℕ) → k ≡ call.Word s u → (before after next : List ℕ) (outs : List O) (a : Result ℕ Refusal)
      → a ≡ word_reply t s u (length before) → after ≡ word_after t s u before → WordMeans t s u a after
      → Right key entry t k (buffers before next outs) (answer.Word a) (buffers after next outs)
  right_word s u e before after next outs a h b w =
      subst (λ (x : Call). Right key entry t x (buffers before next outs) (answer.Word a) (buffers after next outs)) (sym e) ((h, b, w), refl, refl)

  pub right_table : k ≡ call.Table → (numbers next next' : List ℕ) (outs outs' : List O) (a : Result Table Refusal)
      → a ≡ table_reply t (length next) (length outs) → next' ≡ next_after t (length outs) next → OutputsAfter entry t a outs outs'
      → TableMeans key t a next' outs' → Right key entry t k (buffers numbers next outs) (answer.Table a) (buffers numbers next' outs')
  right_table e numbers next next' outs outs' a h b o w =
      subst (λ (x : Call). Right key entry t x (buffers numbers next outs) (answer.Table a) (buffers numbers next' outs')) (sym e) ((h, b, o, w), refl)
