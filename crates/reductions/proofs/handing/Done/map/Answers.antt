use Rattle.std.proofs.Common.{◌≡◌, length, sym, ◌∙◌, arith}
use Rattle.std.proofs.lemmas.List.{take_at}
use Rattle.std.proofs.lemmas.Result.{IfOk-from_err}
use Rattle.sheet.specs.Stage.{Stage}
use Rattle.sheet.specs.Standing.{stage_of}
use Rattle.reductions.proofs.Written.{ok≢err, map_heard, map_written}
use Rattle.reductions.proofs.handing.Done.map.Goals as goal

pub returns-in_err-numbers : goal.returns-in_err-numbers
returns-in_err-numbers g c = IfOk-from_err _ _ c.from_residual.ensures.0

pub unreachable-requires : goal.unreachable-requires
unreachable-requires g c =
    let t : Stage = stage_of c.args.self.now.sheet in
    let size : length c.deref_mut.result.now ≡ t.machine.states =
    omega (arith, c.deref_mut.ensures.len, c.in_ok-numbers.ensures.len, c.args.self.now.same_states) in
    ok≢err tt _ (sym (map_heard t c.args.self.now.sound _ size) ∙ sym (c.map.ensures.answer) ∙ c.in_default.is)

pub returns : goal.returns
returns g c =
    let t : Stage = stage_of c.args.self.now.sheet in
    let size : length c.deref_mut.result.now ≡ t.machine.states =
    omega (arith, c.deref_mut.ensures.len, c.in_ok-numbers.ensures.len, c.args.self.now.same_states) in
    take_at c.map.new.out _ _ (omega (arith, c.map.auto.out, c.deref_mut.ensures.len))
    ∙ c.map.ensures.buffer ∙ map_written t c.args.self.now.sound _ size
