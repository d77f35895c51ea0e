use Rattle.std.proofs.Common.{◌≡◌, false, get_or, Ok, sym, refl, ap, ◌∙◌, subst, arith}
use Rattle.sheet.specs.Stage.{Stage, stage_at}
use Rattle.sheet.specs.Standing.{stage_of}
use Rattle.runs.specs.declared.Call.{Call}
use Rattle.runs.specs.declared.Call.TheVariants as call
use Rattle.runs.specs.Entries.{buffers, entry_of}
use Rattle.runs.specs.Right.{Right}
use Rattle.runs.specs.Runs.{Played}
use Rattle.runs.proofs.Going.{going_none, going_more, played_all, played_some}
use Rattle.runs.proofs.play.Goals as goal

pub loop-call-init : goal.loop-call-init
loop-call-init g c =
    let key = g.M.Out.Output.key in
    let p : c.open-sheet.result.machine ≡ c.args.machine = c.open-sheet.ensures.same in
    let m = g.M.Machine.means c.open-sheet.result.machine in (
      refl,
      going_none key m.entry (stage_at key m 0 false) (buffers c.args.numbers.now c.args.next.now c.args.outputs.now) c.args.calls.now (g.R.Recorder.log c.args.recorder.now) _
          (c.open-sheet.ensures.stage ∙ ap (λ (x : g.row.M.Denot). stage_at key (g.M.Machine.means x) 0 false) (sym p)),
    )

pub loop-call-preserved : goal.loop-call-preserved
loop-call-preserved g c =
    let key = g.M.Out.Output.key in
    let inv = c.loop-call.invariant in
    let s = c.loop-call.sheet in
    let a = c.ask-answer.result in
    let m = g.M.Machine.means c.open-sheet.result.machine in
    let k : Call = get_or c.args.calls.now c.loop-call.call-index call.Round in
    let t : Stage = stage_of s in
    let before = buffers c.loop-call.numbers c.loop-call.next c.loop-call.outputs in
    let after = buffers c.ask-answer.new.numbers c.ask-answer.new.next c.ask-answer.new.outputs in
    let right : Right key m.entry t k before a after =
    subst (λ (x : g.row.M.Denot). Right key (g.M.Machine.means x).entry t k before a after) inv.0 c.ask-answer.ensures.right in (
      c.ask-answer.ensures.same ∙ inv.0,
      going_more key m.entry (stage_at key m 0 false) (buffers c.args.numbers.now c.args.next.now c.args.outputs.now) c.args.calls.now c.loop-call.call-index (g.R.Recorder.log c.args.recorder.now) (g.R.Recorder.log c.loop-call.recorder) t before inv.1
          k call.Round (omega arith) refl (entry_of k a c.ask-answer.new.numbers c.ask-answer.new.next c.ask-answer.new.outputs) refl right
          (g.R.Recorder.log c.note.new.self) (stage_of c.ask-answer.new.sheet) c.in_ok-note.ensures c.ask-answer.ensures.stage,
    )

pub returns-in_err-note : goal.returns-in_err-note
returns-in_err-note g c =
    let key = g.M.Out.Output.key in
    let m = g.M.Machine.means c.open-sheet.result.machine in
    let start = buffers c.args.numbers.now c.args.next.now c.args.outputs.now in
    subst (λ (x : g.row.M.Denot). Played key (g.M.Machine.means x).entry (stage_at key (g.M.Machine.means x) 0 false) start c.args.calls.now (g.R.Recorder.log c.args.recorder.now) (g.R.Recorder.log c.note.new.self) c.from_residual.result (buffers c.ask-answer.new.numbers c.ask-answer.new.next c.ask-answer.new.outputs)) c.open-sheet.ensures.same
    (played_some key m.entry (stage_at key m 0 false) start c.args.calls.now c.loop-call.call-index (g.R.Recorder.log c.args.recorder.now) (g.R.Recorder.log c.loop-call.recorder) (g.R.Recorder.log c.note.new.self) (stage_of c.loop-call.sheet) (buffers c.loop-call.numbers c.loop-call.next c.loop-call.outputs) (buffers c.ask-answer.new.numbers c.ask-answer.new.next c.ask-answer.new.outputs) c.loop-call.invariant.1 c.in_err-note.ensures (omega arith) c.from_residual.result c.from_residual.ensures.0)

pub returns : goal.returns
returns g c =
    let key = g.M.Out.Output.key in
    let m = g.M.Machine.means c.open-sheet.result.machine in
    let start = buffers c.args.numbers.now c.args.next.now c.args.outputs.now in
    subst (λ (x : g.row.M.Denot). Played key (g.M.Machine.means x).entry (stage_at key (g.M.Machine.means x) 0 false) start c.args.calls.now (g.R.Recorder.log c.args.recorder.now) (g.R.Recorder.log c.loop-call.recorder) (Ok tt) (buffers c.loop-call.numbers c.loop-call.next c.loop-call.outputs)) c.open-sheet.ensures.same
    (played_all key m.entry (stage_at key m 0 false) start c.args.calls.now c.loop-call.call-index (g.R.Recorder.log c.args.recorder.now) _ (stage_of c.loop-call.sheet) (buffers c.loop-call.numbers c.loop-call.next c.loop-call.outputs) c.loop-call.invariant.1 (omega arith) tt)
