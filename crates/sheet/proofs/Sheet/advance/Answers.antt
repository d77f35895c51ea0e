use Rattle.std.proofs.Common.{ℕ, Ok, ap, ◌∙◌, arith}
use Rattle.sheet.specs.declared.answers.Round.TheVariants as round
use Rattle.sheet.specs.Standing.{stage_of}
use Rattle.sheet.proofs.Answering.{settles, splits}
use Rattle.sheet.proofs.Keeping.{counted, kept_settled, kept_split, next_is, no_more, some_more}
use Rattle.sheet.proofs.Sheet.advance.Goals as goal

pub invariant_of-self : goal.invariant_of-self
invariant_of-self g c =
    let a = c.args.self.now in
    let so = c.requires.0 in
    let done = no_more a (g.met.M.Machine.sizes a.machine) so _ _ c.refine-refined.ensures.next c.if-refined-self.true in
    record { early = a.early; few = a.few; kept = kept_settled a so done }

pub returns-then-refined-self-clause-answer : goal.returns-then-refined-self-clause-answer
returns-then-refined-self-clause-answer g c =
    let a = c.args.self.now in
    let so = c.requires.0 in
    let done = no_more a (g.met.M.Machine.sizes a.machine) so _ _ c.refine-refined.ensures.next c.if-refined-self.true in
    ap (λ (x : ℕ). Ok (round.Settled x)) (counted a so) ∙ settles (stage_of a) so c.requires.1 done

pub invariant_of-self-2 : goal.invariant_of-self-2
invariant_of-self-2 g c =
    let a = c.args.self.now in
    let so = c.requires.0 in
    let sizes = g.met.M.Machine.sizes a.machine in
    let made = c.refine-refined.ensures.next in
    let next = next_is a sizes so _ _ made in
    record {
      early = omega (arith, a.early, c.if-refined-self.false);
      few = c.refine-refined.ensures.few;
      kept = kept_split a c.refine-refined.result.row c.refine-refined.result.parts so
          (omega (arith, a.early, c.if-refined-self.false, c.refine-refined.ensures.few))
          (some_more a sizes so _ _ made c.if-refined-self.false) next.0 next.1;
    }

pub returns-clause-answer : goal.returns-clause-answer
returns-clause-answer g c =
    let a = c.args.self.now in
    let so = c.requires.0 in
    let sizes = g.met.M.Machine.sizes a.machine in
    let made = c.refine-refined.ensures.next in
    ap (λ (x : ℕ). Ok (round.Split x)) (next_is a sizes so _ _ made).1
    ∙ splits (stage_of a) so c.requires.1 (some_more a sizes so _ _ made c.if-refined-self.false)
