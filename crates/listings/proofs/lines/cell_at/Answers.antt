use Rattle.std.proofs.Common.{ℕ, ◌+◌, ◌*◌, List, map, get_or, ap, ◌∙◌}
use Rattle.machine.specs.declared.outputs.Command.{Command}
use Rattle.listings.proofs.Items.{number_found, read_at}
use Rattle.listings.proofs.lines.cell_at.Goals as goal

pub returns-clause-next : goal.returns-clause-next
returns-clause-next c =
    number_found c.deref.result.now (c.args.class * c.args.reduction.now.inputs + c.args.input) c.item_at.result c.item_at.ensures ∙ ap (λ (xs : List ℕ). get_or xs (c.args.class * c.args.reduction.now.inputs + c.args.input) 0) c.deref.ensures.value

pub returns-clause-output : goal.returns-clause-output
returns-clause-output c =
    read_at (λ (x : Command). x.number) 0 _ (λ x h. h) c.item_at-2.result c.deref-2.result.now (c.args.class * c.args.reduction.now.inputs + c.args.input) c.item_at-2.ensures
    ∙ ap (λ (xs : List Command). get_or (map (λ (x : Command). x.number) xs) (c.args.class * c.args.reduction.now.inputs + c.args.input) 0) c.deref-2.ensures.value
