use Rattle.std.proofs.Common.{◌≡◌, [], ◌∷◌, ◌∙◌, arith}
use Rattle.writing.specs.Written.{all_records}
use Rattle.writing.proofs.Counts.{length_listed}
use Rattle.writing.proofs.Finish.{finished}
use Rattle.writing.proofs.plans.Plan.put.Goals as goal

pub put_all-requires-2 : goal.put_all-requires-2
put_all-requires-2 g c =
    let m = g.M.Machine.means c.args.self.now.machine.now in
    let long = length_listed m m.states _ (c.deref.ensures.0 ∙ c.args.self.now.heads_are) in
    omega (arith, long, c.requires)

pub returns : goal.returns
returns g c =
    let m = g.M.Machine.means c.args.self.now.machine.now in
    let front : c.states.result ∷ c.inputs.result ∷ c.start.result ∷ c.args.self.now.records ∷ []
    ≡ m.states ∷ m.inputs ∷ m.start ∷ all_records m ∷ [] = cc in
    finished m _ _ _ _ _ _ front (c.deref.ensures.0 ∙ c.args.self.now.heads_are) c.put_all.ensures c.put_all-2.ensures
    c.put_rows.ensures c.requires
