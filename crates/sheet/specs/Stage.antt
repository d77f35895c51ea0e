-- What a sheet's answers depend on, and how a round changes it.
--   Stage, stage_at              the machine of the theory, its start, its soundness, the rounds that split, and settledness
--   stage_after, stage_settled   the same after an answer to a round, or to settling
--   Unchanged, if_ok             a refusal leaves what there was
use Rattle.std.specs.Prelude.{◌≡◌, ℕ, ◌+◌, ◌-◌, Bool, true, List, ℤ, Ok, Err, Result}
use Rattle.machine.specs.Meaning.{Meaning}
use Rattle.machine.specs.Theory.{mealy_of, sound_by}
use Rattle.mealy.specs.Mealy.{Mealy}
use Rattle.sheet.specs.declared.answers.Refusal.{Refusal}
use Rattle.sheet.specs.declared.answers.Round.{Round}
use Rattle.sheet.specs.declared.answers.Round.TheVariants as round
use Rattle.sheet.specs.declared.answers.Settling.{Settling}

-- a machine of the theory with its start, whether it is sound, how many rounds have split, and whether one has settled
pub record Stage : Type 0 where
  pub machine : Mealy
  pub start : ℕ
  pub sound : Bool
  pub rounds : ℕ
  pub settled : Bool

-- a meaning after r rounds that split
abbrev pub stage_at : {O F : Type 0} → (O → List ℤ) → Meaning O F → ℕ → Bool → Stage
stage_at key m r done =
    record { machine = mealy_of key m; start = m.start; sound = sound_by m; rounds = r; settled = done }

-- after r rounds that split
abbrev pub at_round : ℕ → Stage → Stage
at_round r t = record { machine = t.machine; start = t.start; sound = t.sound; rounds = r; settled = t.settled }

-- one more round that split
abbrev pub one_more : Stage → Stage
one_more t = at_round (t.rounds + 1) t

-- settled after r rounds that split
abbrev pub settled_at : ℕ → Stage → Stage
settled_at r t = record { machine = t.machine; start = t.start; sound = t.sound; rounds = r; settled = true }

-- after an answer to a round
abbrev pub stage_after : Result Round Refusal → Stage → Stage
stage_after (Ok (round.Split c)) t = one_more t
stage_after (Ok (round.Settled c)) t = settled_at t.rounds t
stage_after (Err e) t = t

-- after an answer to settling: all rounds but the last one split
abbrev pub stage_settled : Result Settling Refusal → Stage → Stage
stage_settled (Ok s) t = settled_at (t.rounds + (s.rounds - 1)) t
stage_settled (Err e) t = t

-- a refusal leaves what there was
abbrev pub Unchanged : {A E S : Type 0} → Result A E → S → S → Type 0
Unchanged (Ok x) a b = Unit {0}
Unchanged (Err e) a b = b ≡ a

-- x where a call was answered, and y where it was refused
abbrev pub if_ok : {A E X : Type 0} → Result A E → X → X → X
if_ok (Ok a) x y = x
if_ok (Err e) x y = y
