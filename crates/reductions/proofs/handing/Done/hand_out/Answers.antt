use Rattle.std.proofs.Common.{◌≡◌, vec_items, ap, ◌∙◌, subst, arith}
use Rattle.std.proofs.lemmas.Result.{IfOk-from_err}
use Rattle.machine.proofs.Theory.{sound_decides}
use Rattle.mealy.specs.Partitions.{blocks}
use Rattle.sheet.specs.Stage.{Stage}
use Rattle.sheet.specs.Standing.{stage_of}
use Rattle.sheet.specs.declared.answers.Table.{Table}
use Rattle.reductions.specs.Aparts.{aparts_of}
use Rattle.reductions.specs.Reductions.{HandedTable, leaders_of, settled_stage}
use Rattle.reductions.proofs.Settled.{stands, settling_is, leaders_shortest}
use Rattle.reductions.proofs.handing.Done.hand_out.Goals as goal

pub returns-in_err-map : goal.returns-in_err-map
returns-in_err-map g c = IfOk-from_err _ _ c.from_residual.ensures.0

pub returns-in_err-handed : goal.returns-in_err-handed
returns-in_err-handed g c = IfOk-from_err _ _ c.from_residual-in_err-handed.ensures.0

pub leaders-requires : goal.leaders-requires
leaders-requires g c = record { map = c.deref.ensures.value ∙ c.in_ok-map.ensures }

pub returns-in_err-leaders : goal.returns-in_err-leaders
returns-in_err-leaders g c = IfOk-from_err _ _ c.from_residual-in_err-leaders.ensures.0

pub invariant_of-led : goal.invariant_of-led
invariant_of-led g c = record { lowest = c.deref-2.ensures.value ∙ c.in_ok-leaders.ensures }

pub returns-in_err-aparts : goal.returns-in_err-aparts
returns-in_err-aparts g c = IfOk-from_err _ _ c.from_residual-in_err-aparts.ensures.0

pub returns : goal.returns
returns g c =
    let d = c.args.self.now in
    let key = g.M.Out.Output.key in
    let m = g.M.Machine.means d.sheet.machine in
    let t : Stage = stage_of d.sheet in
    let e : t ≡ settled_stage key m = stands key m d.sheet.rounds d.sheet.settled d.last d.settled in
    let h = c.in_ok-handed.handed in
    let handed : HandedTable key m.entry (settled_stage key m) h.table (vec_items h.next) (vec_items h.outputs) =
    subst (λ (x : Stage). HandedTable key m.entry x h.table (vec_items h.next) (vec_items h.outputs)) e c.in_ok-handed.ensures in
    record {
      sound = (sound_decides m (g.met.M.Machine.sizes d.sheet.machine)).0 d.sound;
      states = d.same_states;
      inputs = d.same_inputs;
      start = d.same_start;
      settling = settling_is key m d.sheet.rounds d.sheet.settled d.last d.settled d.settling d.taken d.classes;
      numbering = c.in_ok-map.ensures ∙ ap (λ (x : Stage). blocks x.machine x.rounds) e;
      handed = handed;
      aparts =
          c.in_ok-aparts.ensures
          ∙ ap (aparts_of t.machine t.rounds) (c.deref-2.ensures.value ∙ c.in_ok-leaders.ensures)
          ∙ ap (λ (x : Stage). aparts_of x.machine x.rounds (leaders_of x)) e;
      shortest = λ a b l n. leaders_shortest (settled_stage key m) a b l (omega (arith, ap (λ (x : Table). x.classes) handed.answer));
    }
