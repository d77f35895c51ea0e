use Rattle.std.proofs.Common.{pos, arith}
use lib.Signed.{rem_z}
use Rattle.std.proofs.lemmas.Int.{ints}
use Rattle.machine.specs.Wheels.{Carried}
use Rattle.machine.proofs.Tenths.{tenth, carried_small, hundredths_nearest}
use Rattle.machine.proofs.outputs.to_hundredths.Goals as goal

pub returns : goal.returns
returns c =
    let k : Carried (rem_z c.args.offset (pos 10)) c.carry.result = record {
      up = λ h. c.carry.ensures.up (omega (arith, ints));
      down = λ h. c.carry.ensures.down (omega (arith, ints));
      none = λ h l. c.carry.ensures.none (omega (arith, ints)) (omega (arith, ints));
    } in
    let s = carried_small _ _ k in
    let e = tenth c.args.offset c.carry.result _ k (omega (arith, ints)) in
    record { value = e; nearest = hundredths_nearest _ _ e }
