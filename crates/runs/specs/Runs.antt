-- The law over runs: every entry of a log is right after the entries before it.
--   RightAfter, Run     an entry after a log, and one entry after the other
--   Ended, Played       what a play did
use Rattle.std.specs.Prelude.{◌≡◌, ℕ, ◌<◌, List, [], ◌∷◌, ◌++◌, length, take, ℤ, Ok, Err, Result}
use Rattle.machine.specs.declared.Cell.{Cell}
use Rattle.sheet.specs.Stage.{Stage}
use Rattle.runs.specs.Entries.{Buffers, Entry, stage_after_log, last_left}
use Rattle.runs.specs.Right.{Right}
use Rattle.runs.specs.declared.Call.{Call}

module _ {O F : Type 0} (key : O → List ℤ) (entry : ℕ → ℕ → Result (Cell O) F) (opened : Stage) (start : Buffers O) where
  -- the entry is of the call, and right after as many rounds as the log before it says have split, and settled if it says so,
  -- with the buffers as that log left them
  abbrev pub RightAfter : List (Entry O) → Call → Entry O → Type 0
  RightAfter past k e =
      (e.call ≡ k) × Right key entry (stage_after_log opened past) k (last_left start past) e.answer e.left

  -- one entry for each call, each right after those before it
  abbrev pub Run : List (Entry O) → List Call → List (Entry O) → Type 0
  Run past [] [] = Unit {0}
  Run past [] (e ∷ es) = ⊥
  Run past (k ∷ ks) [] = ⊥
  Run past (k ∷ ks) (e ∷ es) = RightAfter past k e × Run (past ++ e ∷ []) ks es

-- a play that came to its end noted every call, and left the buffers as the last one did; one that was stopped noted fewer
abbrev pub Ended : {U S O : Type 0} → Result U S → ℕ → ℕ → Buffers O → Buffers O → Type 0
Ended (Ok u) noted calls left end = (noted ≡ calls) × (end ≡ left)
Ended (Err s) noted calls left end = noted < calls

-- the log has grown by the entries of a run of the calls, from an opened machine
pub record Played {O F U S : Type 0} (key : O → List ℤ) (entry : ℕ → ℕ → Result (Cell O) F) (opened : Stage) (start : Buffers O) (calls : List Call) (before after : List (Entry O)) (r : Result U S) (end : Buffers O) : Type 0 where
  pub entries : List (Entry O)
  pub grew : after ≡ before ++ entries
  pub law : Run key entry opened start [] (take (length entries) calls) entries
  pub ended : Ended r (length entries) (length calls) (last_left start entries) end
