use Rattle.std.proofs.Common.{is_ok, sym, ap, ◌∙◌}
use Rattle.std.proofs.lemmas.Bool.{true≢false}
use Rattle.machine.proofs.Theory.{sound_fits, sound_filled}
use Rattle.reductions.proofs.handing.first_output.Goals as goal

pub unreachable-requires : goal.unreachable-requires
unreachable-requires g c =
    let m = g.M.Machine.means c.args.machine.now in
    let fits = sound_fits m (g.met.M.Machine.sizes c.args.machine.now) c.requires.sound in
    true≢false (sym (sound_filled m c.requires.sound 0 0 fits.some_states fits.some_inputs) ∙ ap is_ok (sym c.entry.ensures ∙ c.in_default.is))
