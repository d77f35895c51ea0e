use Rattle.std.proofs.Common.{◌≡◌, ℕ, ◌≤◌, List, ◌++◌, length, drop, Ok, Err, Result, ap, ◌∙◌, arith}
use Rattle.mealy.specs.FirstWord.{first_word, word_of}
use Rattle.mealy.specs.Mealy.{Mealy}
use Rattle.mealy.specs.Partitions.{parted}
use Rattle.sheet.specs.declared.answers.Refusal.{Refusal}
use Rattle.sheet.specs.Replies.{word_reply, word_after}
use Rattle.sheet.specs.Stage.{Stage, if_ok}
use Rattle.sheet.specs.Standing.{stage_of}
use Rattle.sheet.proofs.Answering.{no_states, states_so, through, short, room, some_so, none_so, taken_is, not_apart_at, word_taken}
use Rattle.sheet.proofs.Keeping.{known, parted_apart}
use Rattle.sheet.proofs.Meaning.{word_means, word_refused}
use Rattle.std.proofs.lemmas.Result.{err_from_is_err_and}
use Rattle.sheet.proofs.Sheet.word.Goals as goal

pub returns-in_err-found : goal.returns-in_err-found
returns-in_err-found g c =
    let a = c.args.self.now in
    let p = err_from_is_err_and c.from_residual.result c.from_residual.ensures.1 in
    rw (p.1, p.2) (word_refused (stage_of a) (known a (g.met.M.Machine.sizes a.machine) (g.met.M.Machine.closed a.machine)) c.args.s c.args.t c.args.out.now _
    (no_states (stage_of a) _ _ _ c.args.s c.args.t c.in_err-found.ensures))

pub returns-in_err-j : goal.returns-in_err-j
returns-in_err-j g c =
    let a = c.args.self.now in
    let t : Stage = stage_of a in
    let is = states_so t _ _ c.args.s c.args.t c.in_ok-found.ensures in
    let none = none_so _ _ _ c.in_err-j.ensures.value in
    let p = err_from_is_err_and c.from_residual-in_err-j.result c.from_residual-in_err-j.ensures.1 in
    rw (p.1, p.2) (word_refused t (known a (g.met.M.Machine.sizes a.machine) (g.met.M.Machine.closed a.machine)) c.args.s c.args.t c.args.out.now _
    (ap Err none.1 ∙ not_apart_at a.rounds _ (parted t.machine a.rounds c.args.s c.args.t) (none.0 ∙ is.3)
    ∙ through t c.args.s c.args.t _ _ c.in_ok-found.ensures _))

pub returns-then-out-j : goal.returns-then-out-j
returns-then-out-j g c =
    let a = c.args.self.now in
    let t : Stage = stage_of a in
    let is = states_so t _ _ c.args.s c.args.t c.in_ok-found.ensures in
    let size : ℕ = length c.args.out.now in
    word_refused t (known a (g.met.M.Machine.sizes a.machine) (g.met.M.Machine.closed a.machine)) c.args.s c.args.t c.args.out.now _
    (short size c.in_ok-j.j (Ok c.in_ok-j.j) c.if-out-j.true
    ∙ word_taken a.rounds size (parted t.machine a.rounds c.args.s c.args.t) c.in_ok-j.j (some_so _ _ _ c.in_ok-j.ensures.value ∙ is.3)
    ∙ through t c.args.s c.args.t _ _ c.in_ok-found.ensures _)

pub spell-requires : goal.spell-requires
spell-requires g c =
    let a = c.args.self.now in
    let t : Stage = stage_of a in
    let is = states_so t _ _ c.args.s c.args.t c.in_ok-found.ensures in
    let at = taken_is a.rounds (parted t.machine a.rounds c.args.s c.args.t) c.in_ok-j.j (some_so _ _ _ c.in_ok-j.ensures.value ∙ is.3) in
    let early : c.in_ok-j.j ≤ a.rounds = omega (arith, at.0, at.1) in
    record {
      room = c.if-out-j.false;
      apart = record { sound = is.0; left = is.1; right = is.2; taken = early; apart = parted_apart t.machine a.rounds c.args.s c.args.t c.in_ok-j.j at.0 early };
    }

pub returns : goal.returns
returns g c =
    let a = c.args.self.now in
    let t : Stage = stage_of a in
    let N : Mealy = t.machine in
    let sizes = g.met.M.Machine.sizes a.machine in
    let out : List ℕ = c.args.out.now in
    let s : ℕ = c.args.s in
    let u : ℕ = c.args.t in
    let j : ℕ = c.in_ok-j.j in
    let is = states_so t _ _ s u c.in_ok-found.ensures in
    let at = taken_is a.rounds (parted N a.rounds s u) j (some_so _ _ _ c.in_ok-j.ensures.value ∙ is.3) in
    let answer : Ok j ≡ word_reply t s u (length out) =
    room (length out) j (Ok j) c.if-out-j.false
    ∙ word_taken a.rounds (length out) (parted N a.rounds s u) j (some_so _ _ _ c.in_ok-j.ensures.value ∙ is.3)
    ∙ through t s u _ _ c.in_ok-found.ensures _ in
    let wrote : c.spell.new.out ≡ word_of N a.rounds s u ++ drop (length (word_of N a.rounds s u)) out =
    c.spell.ensures
    ∙ ap (λ (x : ℕ). first_word N x s u ++ drop (length (first_word N x s u)) out) at.0 in
    let buffer : c.spell.new.out ≡ word_after t s u out =
    wrote ∙ ap (λ (x : Result ℕ Refusal). if_ok x (word_of N a.rounds s u ++ drop (length (word_of N a.rounds s u)) out) out) answer in
    record {
      answer = answer;
      buffer = buffer;
      means = word_means t (known a sizes (g.met.M.Machine.closed a.machine)) s u out _ _ answer buffer;
    }
