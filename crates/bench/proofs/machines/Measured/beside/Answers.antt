use Rattle.std.proofs.Common.{ℕ, ◌-◌, ap, ◌∙◌}
use Rattle.forms.specs.Forms.{grid_of}
use Rattle.layers.specs.Besides.{beside}
use Rattle.machine.specs.Meaning.{Meaning}
use Rattle.machine.specs.declared.faults.StoredFault.{StoredFault}
use Rattle.machine.specs.declared.outputs.Command.{Command}
use Rattle.bench.specs.Tables.{measured}
use Rattle.bench.proofs.machines.Measured.beside.Goals as goal

pub returns : goal.returns
returns c =
    let k = c.args.self.inputs in
    let table = measured c.args.self.case in
    c.new.ensures.made
    ∙ (ap (λ (x : Meaning Command StoredFault). beside x (grid_of c.in_ok-grid-2.field-0)) (c.in_ok-grid.ensures ∙ ap (λ (n : ℕ). table n k) c.saturating_sub.ensures)
    ∙ ap (beside (table (c.args.self.states - 1) k)) c.in_ok-grid-2.ensures)
