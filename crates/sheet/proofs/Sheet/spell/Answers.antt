use Rattle.std.proofs.Common.{◌≡◌, ℕ, ◌-◌, false, refl, sym, ◌∙◌, subst, arith}
use Rattle.std.proofs.lemmas.Bool.{true≢false}
use native.Mathlib.Numerals.{unary_clauses}
use Rattle.mealy.specs.Partitions.{share}
use Rattle.sheet.specs.Standing.{stage_of}
use Rattle.sheet.proofs.Spelling.{some_input, filled, spelt_ends, spelt_goes}
use Rattle.sheet.proofs.Sheet.spell.Goals as goal
use Rattle.sheet.proofs.Sheet.spell.Goals.{in_default-2-via-in-Ok+in_default, in_default-2-via-in_default}

pub loop-place-init : goal.loop-place-init
loop-place-init g c =
    let pre = c.requires.apart in
    record { left = pre.left; right = pre.right; apart = simp unary_clauses pre.apart; word = simp unary_clauses; rest = refl }

pub unreachable-requires : goal.unreachable-requires
unreachable-requires g c =
    let a = c.args.self.now in
    some_input a (g.met.M.Machine.sizes a.machine) c.requires.apart c.loop-place.invariant (omega arith) (rw c.in_default.is at c.first_input.ensures)

pub unreachable-requires-in_default-2 : goal.unreachable-requires-in_default-2
unreachable-requires-in_default-2 g c =
    let a = c.args.self.now in
    let so = c.loop-place.invariant in
    let full = filled a (g.met.M.Machine.sizes a.machine) c.requires.apart so (omega arith) c.in-Some.i c.in-Some.ensures in
    elim c.in_default-2.branch [
      | in_default-2-via-in-Ok+in_default w ↦ full _ so.right w.in_default-2.field-0-1 (sym c.entry-in-loop-place.ensures ∙ w.in_default-2.is-1)
      | in_default-2-via-in_default w ↦ full _ so.left w.in_default-2.field-0-0 (sym c.entry.ensures ∙ w.in_default-2.is-0)
    ]

pub returns-then-not-alike : goal.returns-then-not-alike
returns-then-not-alike g c =
    let a = c.args.self.now in
    spelt_ends a (g.met.M.Machine.sizes a.machine) c.requires.apart c.loop-place.invariant (omega arith) c.in-Some.i c.in-Some.ensures
    _ _ (sym c.entry.ensures ∙ c.in-Ok-Ok.is-0) (sym c.entry-in-loop-place.ensures ∙ c.in-Ok-Ok.is-1) _ c.alike.ensures (omega arith) c.if-not-alike.true

pub loop-place-preserved : goal.loop-place-preserved
loop-place-preserved g c =
    let a = c.args.self.now in
    spelt_goes a (g.met.M.Machine.sizes a.machine) c.requires.apart c.loop-place.invariant (omega arith) c.in-Some.i c.in-Some.ensures
    _ _ (sym c.entry.ensures ∙ c.in-Ok-Ok.is-0) (sym c.entry-in-loop-place.ensures ∙ c.in-Ok-Ok.is-1) _ c.alike.ensures (omega arith) (g.met.M.Machine.closed a.machine) c.if-not-alike.false

pub returns : goal.returns
returns g c =
    let l = c.loop-place in
    let over : c.args.j - l.place ≡ 0 = omega arith in
    absurd (true≢false (subst (λ (y : ℕ). share (stage_of c.args.self.now).machine y l.a l.b ≡ false) over l.invariant.apart))
