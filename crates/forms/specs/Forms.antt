-- What an opened form means, by what it holds.
use Rattle.machine.specs.Meaning.{Meaning}
use Rattle.machine.specs.declared.faults.StoredFault.{StoredFault}
use Rattle.machine.specs.declared.outputs.Command.{Command}
use Rattle.std.specs.Prelude.{vec_items}
use Rattle.forms.specs.declared.Chain.{Chain}
use Rattle.forms.specs.declared.Grid.{Grid}
use Rattle.forms.specs.declared.Ring.{Ring}
use Rattle.forms.specs.Chains.{chain_meaning}
use Rattle.forms.specs.Grids.{grid_meaning}
use Rattle.forms.specs.Rings.{ring_meaning}

abbrev pub ring_of : Ring → Meaning Command StoredFault
ring_of r = ring_meaning r.size

abbrev pub grid_of : {O : Type 0} → Grid O → Meaning O StoredFault
grid_of g = grid_meaning g.states g.inputs g.start (vec_items g.next) (vec_items g.outputs)

abbrev pub chain_of : Chain → Meaning Command StoredFault
chain_of c = chain_meaning (vec_items c.bytes)
