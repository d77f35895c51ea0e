use Rattle.std.proofs.Common.{◌≡◌, false}
use Rattle.sheet.specs.Stage.{stage_at}
use Rattle.sheet.specs.Standing.{stage_of}
use Rattle.runs.specs.Entries.{buffers}
use Rattle.runs.proofs.Going.{Going}
use Rattle.runs.proofs.play.Given as goal

abbrev pub invariant-loop-call : goal.invariant-loop-call
invariant-loop-call g l =
    (l.sheet.machine ≡ l.initial.sheet.machine)
    × Going g.M.Out.Output.key (g.M.Machine.means l.initial.sheet.machine).entry (stage_at g.M.Out.Output.key (g.M.Machine.means l.initial.sheet.machine) 0 false)
    (buffers l.initial.numbers l.initial.next l.initial.outputs) l.calls l.call-index (g.R.Recorder.log l.initial.recorder) (g.R.Recorder.log l.recorder)
    (stage_of l.sheet) (buffers l.numbers l.next l.outputs)
