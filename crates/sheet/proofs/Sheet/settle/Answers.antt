use Rattle.std.proofs.Common.{◌≡◌, ℕ, ◌+◌, ◌-◌, true, Ok, sym, ap, ◌∙◌, subst, arith}
use Rattle.mealy.specs.Partitions.{block_count}
use Rattle.sheet.specs.declared.answers.Round.{Round}
use Rattle.sheet.specs.Replies.{round_reply, settle_reply}
use Rattle.sheet.specs.Stage.{Stage, at_round, one_more, settled_at, stage_after}
use Rattle.sheet.specs.Standing.{stage_of}
use Rattle.sheet.proofs.Answering.{closed, open_so}
use Rattle.sheet.proofs.Keeping.{Known, counted, known}
use Rattle.sheet.proofs.LastRound.{settled_all}
use Rattle.sheet.proofs.Meaning.{settle_means}
use Rattle.std.proofs.lemmas.Result.{err_from_is_err_and}
use Rattle.sheet.proofs.Sheet.settle.Goals as goal

pub returns-in_err-still_open-clause-answer : goal.returns-in_err-still_open-clause-answer
returns-in_err-still_open-clause-answer g c =
    let p = err_from_is_err_and c.from_residual.result c.from_residual.ensures.1 in
    rw (p.1, p.2) (closed (stage_of c.args.self.now) tt _ _ c.in_err-still_open.ensures)

pub advance-requires : goal.advance-requires
advance-requires g c =
    let so = open_so (stage_of c.args.self.now) tt tt c.in_ok-still_open.ensures in
    let e = c.rounds.invariant.1 in
    (ap (λ (x : Stage). x.sound) e ∙ so.0, ap (λ (x : Stage). x.settled) e ∙ so.1)

pub rounds-preserved : goal.rounds-preserved
rounds-preserved g c =
    let inv = c.rounds.invariant in
    let s = c.rounds.self in
    let t : Stage = stage_of c.args.self.now in
    let after = c.advance.ensures.stage ∙ ap (λ (r : Round). stage_after (Ok r) (stage_of s)) c.in-Split.is in
    let rounds : c.advance.new.self.rounds ≡ s.rounds + 1 = ap (λ (x : Stage). x.rounds) after in (
      c.advance.ensures.same ∙ inv.0,
      after ∙ ap one_more inv.1 ∙ ap (λ (n : ℕ). at_round n t) (sym rounds),
      omega (arith, rounds, inv.2),
    )

pub returns : goal.returns
returns g c =
    let a = c.args.self.now in
    let t : Stage = stage_of a in
    let sizes = g.met.M.Machine.sizes in
    let closes = g.met.M.Machine.closed in
    let inv = c.rounds.invariant in
    let s = c.rounds.self in
    let f = c.advance.new.self in
    let so = open_so t tt tt c.in_ok-still_open.ensures in
    let after = c.advance.ensures.stage ∙ ap (λ (r : Round). stage_after (Ok r) (stage_of s)) c.in_default.is in
    let last : stage_of f ≡ settled_at s.rounds t = after ∙ ap (settled_at s.rounds) inv.1 in
    let rounds : f.rounds ≡ s.rounds = ap (λ (x : Stage). x.rounds) last in
    let sound : (stage_of f).sound ≡ true = ap (λ (x : Stage). x.sound) last ∙ so.0 in
    let count : f.parts ≡ block_count t.machine s.rounds = counted f sound ∙ ap (λ (x : Stage). block_count x.machine x.rounds) last in
    let said = subst (λ (x : Stage). Ok c.advance.result ≡ round_reply x) inv.1 c.advance.ensures.answer in
    let reply = settled_all t s.rounds (subst Known inv.1 (known s (sizes s.machine) (closes s.machine))) so.0 so.1 inv.2 _
    (ap (λ (r : Round). Ok r) (sym c.in_default.is) ∙ said) f.parts count in
    let answer : Ok (record { rounds = f.rounds - a.rounds + 1; count = f.parts }) ≡ settle_reply t =
    ap (λ (n : ℕ). Ok (record { rounds = n - a.rounds + 1; count = f.parts })) rounds ∙ reply in
    record {
      same = c.advance.ensures.same ∙ inv.0;
      refused = tt;
      stage = last ∙ ap (λ (n : ℕ). settled_at n t) (omega (arith, rounds, inv.2));
      answer = answer;
      means = settle_means t (known a (sizes a.machine) (closes a.machine)) _ answer;
    }

pub overflow_sub-result : goal.overflow_sub-result
overflow_sub-result g c =
    let s = c.rounds.self in
    let after = c.advance.ensures.stage ∙ ap (λ (r : Round). stage_after (Ok r) (stage_of s)) c.in_default.is in
    let rounds : c.advance.new.self.rounds ≡ s.rounds = ap (λ (x : Stage). x.rounds) after in
    omega (arith, rounds, c.rounds.invariant.2)
