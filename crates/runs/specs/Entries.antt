-- The entries of a log, and what can be counted in one.
--   Buffers, Entry              the caller's three buffers; a call, its answer, and the buffers as it left them
--   Noted                       what a recorder does with an entry
--   says_split, says_settled    what an answer says of its round
--   splits_in, settled_in       how many answers of a log said split, and whether one said settled
--   stage_by, stage_after_log   where a sheet stands after one answer, or after all of a log
--   last_left                   the buffers as the last entry left them
use Rattle.std.specs.Prelude.{◌≡◌, ℕ, Bool, true, false, List, [], ◌∷◌, ◌++◌, Ok, Err, Result, sum_by}
use Rattle.std.specs.List.{list_any}
use Rattle.sheet.specs.Stage.{Stage, stage_after}
use Rattle.sheet.specs.declared.answers.Refusal.{Refusal}
use Rattle.sheet.specs.declared.answers.Round.{Round}
use Rattle.sheet.specs.declared.answers.Round.TheVariants as round
use Rattle.runs.specs.declared.Answer.{Answer}
use Rattle.runs.specs.declared.Answer.TheVariants as answer
use Rattle.runs.specs.declared.Call.{Call}

-- the caller's buffers: one for maps and words, and the two of a table
pub record Buffers (O : Type 0) : Type 0 where
  pub numbers : List ℕ
  pub next : List ℕ
  pub outputs : List O

pub record Entry (O : Type 0) : Type 0 where
  pub call : Call
  pub answer : Answer
  pub left : Buffers O

abbrev pub buffers : {O : Type 0} → List ℕ → List ℕ → List O → Buffers O
buffers numbers next outputs = record { numbers = numbers; next = next; outputs = outputs }

abbrev pub entry_of : {O : Type 0} → Call → Answer → List ℕ → List ℕ → List O → Entry O
entry_of call answer numbers next outputs = record { call = call; answer = answer; left = buffers numbers next outputs }

-- a recorder that goes on has one entry more, and one that stops has none
abbrev pub Noted : {U S E : Type 0} → Result U S → List E → List E → E → Type 0
Noted (Ok u) before after e = after ≡ before ++ e ∷ []
Noted (Err s) before after e = after ≡ before

-- 1 where a round was answered split
abbrev pub round_split : Result Round Refusal → ℕ
round_split (Ok (round.Split c)) = 1
round_split (Ok (round.Settled c)) = 0
round_split (Err e) = 0

abbrev pub says_split : Answer → ℕ
says_split (answer.Round a) = round_split a
says_split (answer.Pair a) = 0
says_split (answer.Map a) = 0
says_split (answer.Word a) = 0
says_split (answer.Table a) = 0

-- whether a round was answered settled
abbrev pub round_settled : Result Round Refusal → Bool
round_settled (Ok (round.Split c)) = false
round_settled (Ok (round.Settled c)) = true
round_settled (Err e) = false

abbrev pub says_settled : Answer → Bool
says_settled (answer.Round a) = round_settled a
says_settled (answer.Pair a) = false
says_settled (answer.Map a) = false
says_settled (answer.Word a) = false
says_settled (answer.Table a) = false

module _ {O : Type 0} where
  -- how many answers said split
  abbrev pub splits_in : List (Entry O) → ℕ
  splits_in es = sum_by (λ e. says_split e.answer) es

  -- whether an answer said settled
  abbrev pub settled_in : List (Entry O) → Bool
  settled_in es = list_any (λ e. says_settled e.answer) es

  -- the opened machine after the rounds of a log, counted in the log itself
  abbrev pub stage_after_log : Stage → List (Entry O) → Stage
  stage_after_log t es = record {
    machine = t.machine;
    start = t.start;
    sound = t.sound;
    rounds = splits_in es;
    settled = settled_in es;
  }

  -- the buffers as the last entry left them
  abbrev pub last_left : Buffers O → List (Entry O) → Buffers O
  last_left b [] = b
  last_left b (e ∷ es) = last_left e.left es

-- where a sheet stands after one answer
abbrev pub stage_by : Answer → Stage → Stage
stage_by (answer.Round a) t = stage_after a t
stage_by (answer.Pair a) t = t
stage_by (answer.Map a) t = t
stage_by (answer.Word a) t = t
stage_by (answer.Table a) t = t
