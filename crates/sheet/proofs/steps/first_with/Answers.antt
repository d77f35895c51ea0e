use Rattle.std.proofs.Common.{◌≡◌, true, false, eqb, take, arith, rules, tests}
use Rattle.std.proofs.lemmas.Iterator.{IsFirst-from_position, YieldsList-from_slice}
use Rattle.sheet.proofs.Copying.{place_is_found}
use Rattle.sheet.proofs.steps.first_with.Goals as goal

pub returns : goal.returns
returns c =
    let front = take c.args.n c.args.row.now in
    place_is_found c.args.row.now c.args.n c.args.c _ (omega arith)
    (IsFirst-from_position _ _ _ (λ x. eqb x c.args.c ≡ true) (λ x. eqb x c.args.c ≡ false) c.position.ensures.ran (YieldsList-from_slice front cc) (λ x q k. search (rules, tests)) (λ x q k. search (rules, tests)))
