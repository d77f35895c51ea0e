use Rattle.layers.proofs.Carried.{keymap_part}
use Rattle.layers.proofs.Keymap.new.Goals as goal

pub returns-clause-part_misfit : goal.returns-clause-part_misfit
returns-clause-part_misfit g c =
    keymap_part (g.P.Machine.means c.args.part) c.try_extend_from_slice.new.self.items (g.met.P.Machine.inside c.args.part)
