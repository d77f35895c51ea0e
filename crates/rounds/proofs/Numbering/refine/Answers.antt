use Rattle.std.proofs.Common.{◌≡◌, ℕ, suc, ◌+◌, ◌<◌, ◌≤◌, Bool, true, false, get_or, sym, ap, ◌∙◌, arith}
use Rattle.machine.specs.Theory.{mealy_of}
use Rattle.machine.proofs.Theory.{few_states}
use Rattle.mealy.specs.Below.{count}
use Rattle.mealy.proofs.Below.{lowest_is}
use Rattle.rounds.specs.Joining.{finer, some_below, lead_of, lead_by}
use Rattle.rounds.proofs.Joining.{finer_trans}
use Rattle.rounds.proofs.Leading.{lead_found}
use Rattle.rounds.proofs.Firsts.{below_some, below_none}
use Rattle.rounds.proofs.Filling.{Filled, filled_as, filled_none, filled_joins, filled_leads, filled_few}
use Rattle.rounds.proofs.Refining.{next_number, next_count}
use Rattle.rounds.proofs.Rows.{row_filled}
use Rattle.rounds.proofs.Numbering.refine.Goals as goal
use Rattle.rounds.proofs.Numbering.refine.Goals.{in-Some, in-None}

pub overflow_add-begun : goal.overflow_add-begun
overflow_add-begun g c =
    let m = c.args.self.now.machine.now in
    let fits = few_states (g.M.Machine.means m) (g.met.M.Machine.sizes m) in
    omega (arith, c.states-s-end.ensures, filled_few _ _ _ _ _ c.loop-s.invariant)

pub loop-s-preserved : goal.loop-s-preserved
loop-s-preserved g c =
    let m = c.args.self.now.machine.now in
    let p : ℕ → ℕ → Bool = finer g.M.Out.Output.key (g.M.Machine.means m) c.args.self.now.row.now in
    let trans : (u t s : ℕ) → p u t ≡ true → p t s ≡ true → p u s ≡ true = finer_trans g.M.Out.Output.key (g.M.Machine.means m) c.args.self.now.row.now in
    let fits = few_states (g.M.Machine.means m) (g.met.M.Machine.sizes m) in
    let s : ℕ = c.loop-s.s in
    let few : s < 128 = omega (arith, c.states-s-end.ensures) in
    let so : Filled p s c.loop-s.row c.loop-s.leads c.loop-s.begun = c.loop-s.invariant in
    let is : c.leader_of.result ≡ some_below s (lead_of p s) =
    c.leader_of.ensures ∙ ap (some_below s) (lead_found p trans (λ t. get_or c.loop-s.leads t false) s so.who_leads) in
    elim c.match-leader_of.branch [
      | in-Some w ↦
          let joins = below_some s (lead_of p s) w.in-Some.t (sym is ∙ w.in-Some.is) in
          filled_as p (s + 1) _ _ _ _ _ _ w.row-is w.leads-is w.begun-is
          (filled_joins p s c.loop-s.row c.loop-s.leads c.loop-s.begun few so trans w.in-Some.t (sym joins.0) joins.1)
      | in-None w ↦
          let none : s ≤ lead_of p s = below_none s (lead_of p s) (sym is ∙ w.in-None.is) in
          let leads : lead_of p s ≡ s = omega (arith, none, (lowest_is s (λ t. p t s)).within) in
          filled_as p (s + 1) _ _ _ _ _ _ w.row-is w.leads-is w.begun-is
          (filled_leads p s c.loop-s.row c.loop-s.leads c.loop-s.begun few so leads)
    ]

pub loop-s-init : goal.loop-s-init
loop-s-init g c = filled_none _

pub returns : goal.returns
returns g c =
    let x = c.args.self.now.machine.now in
    let m = g.M.Machine.means x in
    let key = g.M.Out.Output.key in
    let fits = few_states m (g.met.M.Machine.sizes x) in
    let p : ℕ → ℕ → Bool = finer key m c.args.self.now.row.now in
    let whole : c.loop-s.s ≡ m.states = omega (arith, c.states-s-end.ensures) in
    let so : Filled p c.loop-s.s c.loop-s.row c.loop-s.leads c.loop-s.begun = c.loop-s.invariant in
    record {
      next = λ j sound held. (
        row_filled (mealy_of key m) (suc j) c.loop-s.row so.row_size
            (λ s l. so.numbers s (omega arith) ∙ next_number key m (g.met.M.Machine.closed x) sound j c.args.self.now.row.now held s l)
            (λ s a b. so.blank s (omega arith) b),
        so.counted ∙ ap (λ (n : ℕ). count n (lead_by p)) whole ∙ next_count key m (g.met.M.Machine.closed x) sound j c.args.self.now.row.now held,
      );
      few = omega (arith, filled_few _ _ _ _ _ so);
    }
