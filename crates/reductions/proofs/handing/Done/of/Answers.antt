use Rattle.std.proofs.Common.{Ok, Result, sym, ap, ◌∙◌}
use Rattle.machine.specs.Theory.{sound_by}
use Rattle.sheet.specs.Replies.{settle_reply}
use Rattle.sheet.specs.Stage.{stage_settled}
use Rattle.sheet.specs.Standing.{stage_of}
use Rattle.sheet.specs.declared.answers.Refusal.{Refusal}
use Rattle.sheet.specs.declared.answers.Settling.{Settling}
use Rattle.reductions.proofs.Settled.{settles, stage_settled_lem, last_round, has_settled, rounds_taken, classes_left}
use Rattle.reductions.proofs.Written.{ok≢err}
use Rattle.reductions.proofs.handing.Done.of.Goals as goal

pub unreachable-requires : goal.unreachable-requires
unreachable-requires g c =
    ok≢err _ _ (sym (settles g.M.Out.Output.key (g.M.Machine.means c.args.machine) c.requires.sound)
    ∙ ap settle_reply (sym c.open-sheet.ensures.stage) ∙ sym (c.settle.ensures.answer) ∙ c.in_default.is)

pub invariant_of-result : goal.invariant_of-result
invariant_of-result g c =
    let mm = g.M.Machine in
    let oo = g.M.Out.Output in
    let m = mm.means c.args.machine in
    let opened = c.open-sheet.ensures.stage in
    let a = c.in-Ok.settling in
    let s = c.settle.new.self in
    let is = stage_settled_lem oo.key m c.requires.sound a (sym c.in-Ok.is ∙ c.settle.ensures.answer ∙ ap settle_reply opened) in
    let same = c.settle.ensures.same ∙ c.open-sheet.ensures.same in
    let at =
    c.settle.ensures.stage
    ∙ ap (λ (r : Result Settling Refusal). stage_settled r (stage_of c.open-sheet.result)) c.in-Ok.is
    ∙ ap (stage_settled (Ok a)) opened ∙ is.1 in
    record {
      sound = ap (λ (x : g.row.M.Denot). sound_by (mm.means x)) same ∙ c.requires.sound;
      settled = has_settled mm oo c.args.machine s.machine s.rounds s.settled same at;
      last = last_round mm oo c.args.machine s.machine s.rounds s.settled same at;
      taken = rounds_taken mm oo c.args.machine s.machine s.rounds s.settled same at a is.0;
      classes = classes_left mm oo c.args.machine s.machine s.rounds s.settled same at a is.0;
      same_states = c.states-states.ensures ∙ ap (λ (x : g.row.M.Denot). (mm.means x).states) (sym same);
      same_inputs = c.inputs-inputs.ensures ∙ ap (λ (x : g.row.M.Denot). (mm.means x).inputs) (sym same);
      same_start = c.start-start.ensures ∙ ap (λ (x : g.row.M.Denot). (mm.means x).start) (sym same);
    }
