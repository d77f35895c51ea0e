use Rattle.std.proofs.Common.{◌≡◌, ℕ, List, [], ◌++◌, length, get_or, take, drop, Ok, Err, Result, ap, ◌∙◌, arith}
use Rattle.machine.proofs.Theory.{few_states}
use Rattle.mealy.specs.Mealy.{Mealy}
use Rattle.mealy.specs.Partitions.{blocks}
use Rattle.sheet.specs.declared.answers.Refusal.{Refusal}
use Rattle.sheet.specs.declared.answers.Refusal.TheVariants as refusal
use Rattle.sheet.specs.Replies.{map_reply, map_after}
use Rattle.sheet.specs.Stage.{Stage, if_ok}
use Rattle.sheet.specs.Standing.{stage_of}
use Rattle.sheet.proofs.Answering.{unsound, sound_so, heard, short, room}
use Rattle.sheet.proofs.Keeping.{last_row, known}
use Rattle.sheet.proofs.Meaning.{map_means, map_refused}
use Rattle.sheet.proofs.Rows.{front_is}
use Rattle.std.proofs.lemmas.Result.{err_from_is_err_and}
use Rattle.sheet.proofs.Sheet.map.Goals as goal

pub returns-in_err-heard : goal.returns-in_err-heard
returns-in_err-heard g c =
    let t : Stage = stage_of c.args.self.now in
    let p = err_from_is_err_and c.from_residual.result c.from_residual.ensures.1 in
    rw (p.1, p.2) (map_refused t c.args.out.now _ (unsound t tt _ _ c.in_err-heard.ensures))

pub returns-then-out-n : goal.returns-then-out-n
returns-then-out-n g c =
    let t : Stage = stage_of c.args.self.now in
    map_refused t c.args.out.now _
    (ap (λ (x : ℕ). Err (refusal.Short x)) c.states-n.ensures
    ∙ short (length c.args.out.now) t.machine.states _ (omega (arith, c.states-n.ensures)) ∙ heard t _ (sound_so t tt tt c.in_ok-heard.ensures))

pub copy_front-requires : goal.copy_front-requires
copy_front-requires g c =
    let a = c.args.self.now in
    let fits = few_states (g.M.Machine.means a.machine) (g.met.M.Machine.sizes a.machine) in
    (omega (arith, c.states-n.ensures), omega arith)

pub returns : goal.returns
returns g c =
    let a = c.args.self.now in
    let out : List ℕ = c.args.out.now in
    let sizes = g.met.M.Machine.sizes a.machine in
    let t : Stage = stage_of a in
    let N : Mealy = t.machine in
    let answer : Ok tt ≡ map_reply t (length out) =
    room (length out) N.states _ (omega (arith, c.states-n.ensures)) ∙ heard t _ (sound_so t tt tt c.in_ok-heard.ensures) in
    let wrote : c.copy_front.new.out ≡ blocks N a.rounds ++ drop N.states out =
    c.copy_front.ensures
    ∙ ap (λ (x : ℕ). take x (get_or a.rows a.rounds []) ++ drop x out) c.states-n.ensures
    ∙ ap (λ (x : List ℕ). take N.states x ++ drop N.states out) (last_row a)
    ∙ ap (λ (x : List ℕ). x ++ drop N.states out) (front_is N (few_states (g.M.Machine.means a.machine) sizes) a.rounds) in
    let buffer : c.copy_front.new.out ≡ map_after t out =
    wrote ∙ ap (λ (x : Result (Unit {0}) Refusal). if_ok x (blocks N a.rounds ++ drop N.states out) out) answer in
    record {
      answer = answer;
      buffer = buffer;
      means = map_means t (known a sizes (g.met.M.Machine.closed a.machine)) out _ _ answer buffer;
    }
