use Rattle.std.proofs.Common.{◌∙◌, arith}
use Rattle.machine.proofs.Theory.{sound_decides}
use Rattle.std.proofs.lemmas.Bool.Decides.{same_from_decides}
use Rattle.sheet.proofs.Keeping.{kept_fresh}
use Rattle.sheet.proofs.Sheet.open.Goals as goal

pub invariant_of-result : goal.invariant_of-result
invariant_of-result g c =
    let x = c.args.machine in
    let m = g.M.Machine.means x in
    let decides = sound_decides m (g.met.M.Machine.sizes x) in
    record {
      early = omega arith;
      few = omega arith;
      kept = kept_fresh g.M.Out.Output.key m (g.met.M.Machine.sizes x) _ _
          (c.is_ok-sound.ensures.value ∙ same_from_decides _ _ c.check.ensures.accepts decides) c.blank.ensures;
    }

pub returns-clause-sound : goal.returns-clause-sound
returns-clause-sound g c = sound_decides (g.M.Machine.means c.args.machine) (g.met.M.Machine.sizes c.args.machine)
