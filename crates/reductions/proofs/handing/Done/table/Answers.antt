use Rattle.std.proofs.Common.{◌≡◌, ◌≤◌, ℕ, List, ◌++◌, length, take, drop, Result, sym, ◌∙◌, subst, mul-le-mul, arith}
use Rattle.std.proofs.lemmas.List.{take_at}
use Rattle.std.proofs.lemmas.Result.{IfOk-from_err}
use Rattle.machine.specs.Theory.{mealy_of}
use Rattle.machine.proofs.Theory.{few_states, few_inputs}
use Rattle.mealy.proofs.Rounds.{blocks_bounded}
use Rattle.sheet.specs.Means.{TableMeans}
use Rattle.sheet.specs.Stage.{Stage}
use Rattle.sheet.specs.Standing.{stage_of}
use Rattle.sheet.specs.Tables.{cell_count, OutputsAfter}
use Rattle.sheet.specs.declared.answers.Refusal.{Refusal}
use Rattle.sheet.specs.declared.answers.Table.{Table}
use Rattle.reductions.specs.Reductions.{HandedTable}
use Rattle.reductions.proofs.Settled.{cells_are}
use Rattle.reductions.proofs.Written.{ok≢err, table_heard, table_handed}
use Rattle.reductions.proofs.handing.Done.table.Goals as goal

pub overflow_mul-cells : goal.overflow_mul-cells
overflow_mul-cells g c =
    let d = c.args.self.now in
    let m = g.M.Machine.means d.sheet.machine in
    let sizes = g.met.M.Machine.sizes d.sheet.machine in
    let few : d.settling.count ≤ 128 = omega (arith, d.classes, blocks_bounded (mealy_of g.M.Out.Output.key m) d.sheet.rounds, few_states m sizes) in
    let narrow : d.inputs ≤ 32 = omega (arith, d.same_inputs, few_inputs m sizes) in
    omega (arith, mul-le-mul few narrow)

pub returns-in_err-next : goal.returns-in_err-next
returns-in_err-next g c = IfOk-from_err _ _ c.from_residual.ensures.0

pub returns-in_err-outputs : goal.returns-in_err-outputs
returns-in_err-outputs g c = IfOk-from_err _ _ c.from_residual-in_err-outputs.ensures.0

pub unreachable-requires : goal.unreachable-requires
unreachable-requires g c =
    let t : Stage = stage_of c.args.self.now.sheet in
    let d = c.args.self.now in
    let ln : length c.deref_mut.result.now ≡ cell_count t = omega (arith, c.deref_mut.ensures.len, c.in_ok-next.ensures.len, cells_are t d.settling.count d.inputs d.classes d.same_inputs) in
    let lo : length c.deref_mut-2.result.now ≡ cell_count t = omega (arith, c.deref_mut-2.ensures.len, c.in_ok-outputs.ensures.len, cells_are t d.settling.count d.inputs d.classes d.same_inputs) in
    ok≢err _ _ (sym (table_heard t d.sound d.settled _ _ ln lo) ∙ sym c.table.ensures.answer ∙ c.in_default.is)

pub returns : goal.returns
returns g c =
    let entry = (g.M.Machine.means c.args.self.now.sheet.machine).entry in
    let key = g.M.Out.Output.key in
    let t : Stage = stage_of c.args.self.now.sheet in
    let d = c.args.self.now in
    let next = c.deref_mut.result.now in
    let outs = c.deref_mut-2.result.now in
    let next' = c.table.new.next in
    let outs' = c.table.new.outputs in
    let ln : length next ≡ cell_count t = omega (arith, c.deref_mut.ensures.len, c.in_ok-next.ensures.len, cells_are t d.settling.count d.inputs d.classes d.same_inputs) in
    let lo : length outs ≡ cell_count t = omega (arith, c.deref_mut-2.ensures.len, c.in_ok-outputs.ensures.len, cells_are t d.settling.count d.inputs d.classes d.same_inputs) in
    let a = c.in_ok-next.next in
    let b = c.in_ok-outputs.outputs in
    let whole-next = take_at next' (drop (length next') a.items) a.len (omega (arith, c.table.auto.next, c.deref_mut.ensures.len)) in
    let whole-outs = take_at outs' (drop (length outs') b.items) b.len (omega (arith, c.table.auto.outputs, c.deref_mut-2.ensures.len)) in
    let handed = table_handed t d.sound d.settled key entry c.in-Ok.table next next' outs outs' ln lo
    (sym c.in-Ok.is ∙ c.table.ensures.answer) c.table.ensures.next
    (subst (λ (r : Result Table Refusal). OutputsAfter entry t r outs outs') c.in-Ok.is c.table.ensures.outputs)
    (subst (λ (r : Result Table Refusal). TableMeans key t r next' outs') c.in-Ok.is c.table.ensures.means) in
    subst (λ (x : List ℕ). HandedTable key entry t c.in-Ok.table x (take b.len (outs' ++ drop (length outs') b.items))) (sym whole-next)
    (subst (λ (x : List g.row.M-Out.Denot). HandedTable key entry t c.in-Ok.table next' x) (sym whole-outs) handed)
