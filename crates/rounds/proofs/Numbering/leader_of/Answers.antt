use Rattle.std.proofs.Common.{◌≡◌, ℕ, Bool, true, false, ◌&&◌, get_or, rules, tests}
use Rattle.std.proofs.lemmas.Iterator.{first_from_Range}
use Rattle.rounds.specs.Joining.{finer}
use Rattle.rounds.proofs.Firsts.{lowest_is_found}
use Rattle.rounds.proofs.Numbering.leader_of.Goals as goal

pub returns : goal.returns
returns g c =
    let p : ℕ → Bool = λ t. get_or c.args.leads.now t false && finer g.M.Out.Output.key (g.M.Machine.means c.args.self.now.machine.now) c.args.self.now.row.now t c.args.s in
    lowest_is_found c.args.s p _
    (first_from_Range _ _ _ _ (λ t. p t ≡ true) (λ t. p t ≡ false) c.find.ensures.ran (λ t q k. search (rules, tests)) (λ t q k. search (rules, tests)))
