use Rattle.std.proofs.Common.{◌≡◌, ℕ, Bool, true, false, not, ap, ◌∙◌, rules, tests}
use Rattle.std.proofs.lemmas.Iterator.{first_from_Range}
use Rattle.mealy.specs.Below.{lowest}
use Rattle.rounds.specs.Joining.{joins_at, some_below}
use Rattle.rounds.proofs.Firsts.{lowest_is_found}
use Rattle.rounds.proofs.Refining.{first_input_is}
use Rattle.rounds.proofs.Numbering.first_input.Goals as goal

pub returns : goal.returns
returns g c j sound held ls lt =
    let m = g.M.Machine.means c.args.self.now.machine.now in
    let row = c.args.self.now.row.now in
    let apart : ℕ → Bool = λ i. not (joins_at g.M.Out.Output.key m row c.args.s c.args.t i) in
    lowest_is_found c.inputs.result apart _
    (first_from_Range _ _ _ _ (λ i. apart i ≡ true) (λ i. apart i ≡ false) c.find.ensures.ran (λ i q k. search (rules, tests)) (λ i q k. search (rules, tests)))
    ∙ ap (λ (n : ℕ). some_below n (lowest n apart)) c.inputs.ensures
    ∙ ap (some_below m.inputs) (first_input_is g.M.Out.Output.key m (g.met.M.Machine.closed c.args.self.now.machine.now) sound j row held c.args.s c.args.t ls lt)
