-- A run with one entry more.
use Rattle.std.proofs.Common.{◌≡◌, ℕ, ◌+◌, ◌<◌, Bool, true, false, ◌||◌, List, [], ◌∷◌, ◌++◌, length, get_or, take, ℤ, Ok, Err, Result, IsErr, sym, refl, ap, ◌∙◌, subst, add-zero, arith}
use Rattle.std.proofs.Math.Bool.{or-false, or-true}
use Rattle.std.proofs.lemmas.Bool.{false≢true}
use Rattle.std.proofs.lemmas.List.Folds.{list_any-append}
use Rattle.std.proofs.lemmas.List.Sums.{sum_by-append}
use Rattle.machine.specs.declared.Cell.{Cell}
use Rattle.std.proofs.lemmas.List.{append-nil, append_assoc, length_push, take_more}
use Rattle.sheet.specs.Stage.{Stage}
use Rattle.sheet.specs.declared.answers.Round.TheVariants as round
use Rattle.runs.specs.Entries.{Buffers, Entry, says_split, says_settled, splits_in, settled_in, stage_after_log, last_left, stage_by}
use Rattle.runs.specs.Right.{Right}
use Rattle.runs.specs.Runs.{RightAfter, Run, Played}
use Rattle.runs.specs.declared.Answer.{Answer}
use Rattle.runs.specs.declared.Answer.TheVariants as answer
use Rattle.runs.specs.declared.Call.{Call}

-- What one more entry adds to the counts,
splits_push : {O : Type 0} (es : List (Entry O)) (e : Entry O) → splits_in (es ++ e ∷ []) ≡ splits_in es + says_split e.answer
splits_push es e = omega (arith, sum_by-append (λ (x : Entry _). says_split x.answer) es (e ∷ []))

settled_push : {O : Type 0} (es : List (Entry O)) (e : Entry O) → settled_in (es ++ e ∷ []) ≡ (settled_in es || says_settled e.answer)
settled_push es e =
    list_any-append (λ x. says_settled x.answer) es (e ∷ []) ∙ ap (λ (b : Bool). settled_in es || b) (or-false (says_settled e.answer))

left_push : {O : Type 0} (b : Buffers O) (es : List (Entry O)) (e : Entry O) → last_left b (es ++ e ∷ []) ≡ e.left
left_push b [] e = refl
left_push b (x ∷ es) e = left_push x.left es e

-- and to the stage.
abbrev at : Stage → ℕ → Bool → Stage
at t r b = record { machine = t.machine; start = t.start; sound = t.sound; rounds = r; settled = b }

still : (t : Stage) (r : ℕ) (b : Bool) → at t (r + 0) (b || false) ≡ at t r b
still t r b = ap (λ (x : ℕ). at t x (b || false)) (add-zero r) ∙ ap (at t r) (or-false b)

stage_by_lem : (t : Stage) (r : ℕ) (b : Bool) (a : Answer) → at t (r + says_split a) (b || says_settled a) ≡ stage_by a (at t r b)
stage_by_lem t r b (answer.Round (Ok (round.Split c))) = ap (at t (r + 1)) (or-false b)
stage_by_lem t r b (answer.Round (Ok (round.Settled c))) = ap (λ (x : ℕ). at t x (b || true)) (add-zero r) ∙ ap (at t r) (or-true b)
stage_by_lem t r b (answer.Round (Err e)) = still t r b
stage_by_lem t r b (answer.Pair a) = still t r b
stage_by_lem t r b (answer.Map a) = still t r b
stage_by_lem t r b (answer.Word a) = still t r b
stage_by_lem t r b (answer.Table a) = still t r b

stage_push : {O : Type 0} (t : Stage) (es : List (Entry O)) (e : Entry O)
    → stage_after_log t (es ++ e ∷ []) ≡ stage_by e.answer (stage_after_log t es)
stage_push t es e =
    ap (λ (x : ℕ). at t x (settled_in (es ++ e ∷ []))) (splits_push es e)
    ∙ ap (λ (x : Bool). at t (splits_in es + says_split e.answer) x) (settled_push es e)
    ∙ stage_by_lem t (splits_in es) (settled_in es) e.answer

module _ {O F : Type 0} (key : O → List ℤ) (entry : ℕ → ℕ → Result (Cell O) F) (opened : Stage) (start : Buffers O) where
  run_push : (past : List (Entry O)) (ks : List Call) (es : List (Entry O)) → Run key entry opened start past ks es
      → (k : Call) (e : Entry O) → RightAfter key entry opened start (past ++ es) k e
      → Run key entry opened start past (ks ++ k ∷ []) (es ++ e ∷ [])
  run_push past [] [] run k e right =
      (subst (λ (x : List (Entry O)). RightAfter key entry opened start x k e) (append-nil past) right, tt)
  run_push past [] (x ∷ es) run k e right = absurd run
  run_push past (y ∷ ks) [] run k e right = absurd run
  run_push past (y ∷ ks) (x ∷ es) run k e right = (
    run.0,
    run_push (past ++ x ∷ []) ks es run.1 k e
        (subst (λ (z : List (Entry O)). RightAfter key entry opened start z k e) (sym (append_assoc past (x ∷ []) es)) right),
  )

  -- What stands after i calls.
  pub record Going (calls : List Call) (i : ℕ) (before after : List (Entry O)) (stage : Stage) (end : Buffers O) : Type 0 where
    pub entries : List (Entry O)
    pub grew : after ≡ before ++ entries
    pub size : length entries ≡ i
    pub law : Run key entry opened start [] (take i calls) entries
    pub stands : stage ≡ stage_after_log opened entries
    pub left : end ≡ last_left start entries

  pub going_none : (calls : List Call) (before : List (Entry O)) (stage : Stage) → stage ≡ at opened 0 false
      → Going calls 0 before before stage start
  going_none calls before stage e =
      record { entries = []; grew = sym (append-nil before); size = refl; law = tt; stands = e; left = refl }

  pub going_more : (calls : List Call) (i : ℕ) (before after : List (Entry O)) (stage : Stage) (end : Buffers O)
      → Going calls i before after stage end → (k d : Call) → i < length calls → k ≡ get_or calls i d → (e : Entry O) → e.call ≡ k
      → Right key entry stage k end e.answer e.left → (after' : List (Entry O)) (stage' : Stage)
      → after' ≡ after ++ e ∷ [] → stage' ≡ stage_by e.answer stage → Going calls (i + 1) before after' stage' e.left
  going_more calls i before after stage end go k d l at_i e same right after' stage' grew stepped =
      let es = go.entries in
      let right1 : Right key entry (stage_after_log opened es) k end e.answer e.left =
      subst (λ (x : Stage). Right key entry x k end e.answer e.left) go.stands right in
      let right2 : Right key entry (stage_after_log opened es) k (last_left start es) e.answer e.left =
      subst (λ (x : Buffers O). Right key entry (stage_after_log opened es) k x e.answer e.left) go.left right1 in
      let calls1 : take (i + 1) calls ≡ take i calls ++ k ∷ [] =
      take_more calls i d l ∙ ap (λ (x : Call). take i calls ++ x ∷ []) (sym at_i) in
      record {
        entries = es ++ e ∷ [];
        grew = grew ∙ ap (λ (x : List (Entry O)). x ++ e ∷ []) go.grew ∙ append_assoc before es (e ∷ []);
        size = length_push es e ∙ ap (λ (x : ℕ). x + 1) go.size;
        law =
            subst (λ (x : List Call). Run key entry opened start [] x (es ++ e ∷ [])) (sym calls1)
            (run_push [] (take i calls) es go.law k e (same, right2));
        stands = stepped ∙ ap (stage_by e.answer) go.stands ∙ sym (stage_push opened es e);
        left = sym (left_push start es e);
      }

  -- A play that ended, and one that was stopped.
  pub played_all : {U S : Type 0} (calls : List Call) (i : ℕ) (before after : List (Entry O)) (stage : Stage) (end : Buffers O)
      → Going calls i before after stage end → i ≡ length calls → (u : U)
      → Played {U = U} {S = S} key entry opened start calls before after (Ok u) end
  played_all calls i before after stage end go e u = record {
    entries = go.entries;
    grew = go.grew;
    law = subst (λ (x : ℕ). Run key entry opened start [] (take x calls) go.entries) (sym go.size) go.law;
    ended = (go.size ∙ e, go.left);
  }

  pub played_some : {U S : Type 0} (calls : List Call) (i : ℕ) (before after after' : List (Entry O)) (stage : Stage) (end end' : Buffers O)
      → Going calls i before after stage end → after' ≡ after → i < length calls → (r : Result U S) → IsErr r
      → Played key entry opened start calls before after' r end'
  played_some calls i before after after' stage end end' go same l (Ok u) e = absurd (false≢true e)
  played_some calls i before after after' stage end end' go same l (Err s) e = record {
    entries = go.entries;
    grew = same ∙ go.grew;
    law = subst (λ (x : ℕ). Run key entry opened start [] (take x calls) go.entries) (sym go.size) go.law;
    ended = omega (arith, go.size);
  }
