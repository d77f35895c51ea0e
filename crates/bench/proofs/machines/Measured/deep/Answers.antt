use Rattle.std.proofs.Common.{ℕ, ◌/◌, ap, ◌∙◌}
use Rattle.forms.specs.Forms.{ring_of}
use Rattle.forms.specs.Rings.{ring_meaning}
use Rattle.layers.specs.Keymaps.{keymap}
use Rattle.layers.specs.Trains.{train}
use Rattle.layers.specs.declared.faults.PairFault.{PairFault}
use Rattle.machine.specs.Meaning.{Meaning}
use Rattle.machine.specs.declared.faults.StoredFault.{StoredFault}
use Rattle.machine.specs.declared.outputs.Command.{Command}
use Rattle.bench.specs.Piles.{singled, turns}
use Rattle.bench.proofs.machines.Measured.deep.Goals as goal

pub returns : goal.returns
returns c =
    let n = c.args.self.states in
    let lower = λ (t : ℕ). singled c.args.self.case (n / t) c.args.self.inputs in
    let size = c.ring_size-size.ensures.size in
    let part =
    c.new.ensures.made
    ∙ (ap (λ (x : Meaning Command (PairFault StoredFault StoredFault)). train x (ring_of c.in_ok-ring.field-0)) (c.in_ok-beside.ensures ∙ ap lower size)
    ∙ ap (train (lower (turns n))) (c.in_ok-ring.ensures ∙ ap ring_meaning size)) in
    c.new-2.ensures.made
    ∙ (ap (λ (x : Meaning Command (PairFault (PairFault StoredFault StoredFault) StoredFault)). keymap x c.deref.result.now) part
    ∙ ap (keymap (train (lower (turns n)) (ring_meaning (turns n)))) (c.deref.ensures.value ∙ c.in_ok-keys.ensures))
