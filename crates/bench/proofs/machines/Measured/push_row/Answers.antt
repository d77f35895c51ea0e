use Rattle.std.proofs.Common.{◌≡◌, ◌-◌, [], ◌∷◌, vec_items, ap, arith}
use Rattle.forms.specs.Entries.{command}
use Rattle.bench.proofs.Rows.{one_more_lem, last_more}
use Rattle.bench.proofs.machines.Measured.push_row.Goals as goal

pub loop-input-preserved : goal.loop-input-preserved
loop-input-preserved c = (
  one_more_lem _ _ _ (λ _. c.args.state ∷ []) c.loop-input.input c.loop-input.invariant.0 c.in_ok-push.ensures.items,
  one_more_lem _ _ _ (λ i. command i ∷ []) c.loop-input.input c.loop-input.invariant.1 c.in_ok-push-2.ensures.items,
)

pub returns : goal.returns
returns c =
    let last : c.loop-input.input ≡ c.args.self.inputs - 1 = omega (arith, c.saturating_sub-last.ensures) in
    record {
      nexts = last_more (vec_items c.args.next.now) (vec_items c.loop-input.next) (vec_items c.push-2.new.self) (λ _. c.args.state ∷ []) c.loop-input.input (c.args.self.inputs - 1) _ (c.args.state - 1)
          c.loop-input.invariant.0 c.in_ok-push-3.ensures.items last c.saturating_sub.ensures;
      commands = last_more (vec_items c.args.outputs.now) (vec_items c.loop-input.outputs) (vec_items c.push-3.new.self) (λ i. command i ∷ []) c.loop-input.input (c.args.self.inputs - 1) _ _
          c.loop-input.invariant.1 c.in_ok-push-4.ensures.items last (ap command c.last_command.ensures);
    }
