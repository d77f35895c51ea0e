use Rattle.std.proofs.Common.{◌≡◌, ℕ, ◌*◌, ◌≤◌, List, [], ◌++◌, map, length, get_or, drop, Ok, Result, sym, ap, ◌∙◌, subst, mul-le-mul_right, arith}
use Rattle.machine.proofs.Theory.{start_fits, sound_fits}
use Rattle.mealy.specs.Mealy.{Mealy}
use Rattle.mealy.specs.Partitions.{block, block_count}
use Rattle.std.specs.List.{range_with_len}
use Rattle.sheet.specs.declared.answers.Refusal.{Refusal}
use Rattle.sheet.specs.declared.answers.Table.{Table}
use Rattle.sheet.specs.Stage.{Stage, if_ok}
use Rattle.sheet.specs.Standing.{stage_of}
use Rattle.sheet.specs.Tables.{cell_count, next_at, table_reply}
use Rattle.sheet.proofs.Answering.{unsound, sound_so, heard, next_short, outputs_short, tabled}
use Rattle.sheet.proofs.Keeping.{blocks_kept, counted, known}
use Rattle.sheet.proofs.Meaning.{table_means_at, table_refused}
use Rattle.std.proofs.lemmas.Bool.{cond-false}
use Rattle.sheet.specs.Means.{TableMeans}
use Rattle.sheet.specs.Steps.{Front}
use Rattle.sheet.proofs.Tabling.{nexts_are}
use Rattle.std.proofs.lemmas.Result.{err_from_is_err_and}
use Rattle.sheet.proofs.Sheet.table.Goals as goal

pub returns-in_err-heard : goal.returns-in_err-heard
returns-in_err-heard g c =
    let a = c.args.self.now in
    let p = err_from_is_err_and c.from_residual.result c.from_residual.ensures.1 in
    rw (p.1, p.2) (table_refused g.M.Out.Output.key (g.M.Machine.means a.machine).entry (stage_of a) c.args.next.now c.args.outputs.now _
    (unsound (stage_of a) tt _ _ c.in_err-heard.ensures))

pub returns-then-not-self : goal.returns-then-not-self
returns-then-not-self g c =
    let a = c.args.self.now in
    table_refused g.M.Out.Output.key (g.M.Machine.means a.machine).entry (stage_of a) c.args.next.now c.args.outputs.now _
    (sym (cond-false a.settled _ _ c.if-not-self.true) ∙ heard (stage_of a) _ (sound_so (stage_of a) tt tt c.in_ok-heard.ensures))

pub returns-then-next-total : goal.returns-then-next-total
returns-then-next-total g c =
    let a = c.args.self.now in
    let so = sound_so (stage_of a) tt tt c.in_ok-heard.ensures in
    let total = (blocks_kept a (g.met.M.Machine.sizes a.machine) so c.inputs.result c.inputs.ensures).all in
    table_refused g.M.Out.Output.key (g.M.Machine.means a.machine).entry (stage_of a) c.args.next.now c.args.outputs.now _
    (next_short (stage_of a) c.if-not-self.false (length c.args.next.now) (length c.args.outputs.now) (omega (arith, total)) ∙ heard (stage_of a) _ so)

pub returns-then-outputs-total : goal.returns-then-outputs-total
returns-then-outputs-total g c =
    let a = c.args.self.now in
    let so = sound_so (stage_of a) tt tt c.in_ok-heard.ensures in
    let total = (blocks_kept a (g.met.M.Machine.sizes a.machine) so c.inputs.result c.inputs.ensures).all in
    table_refused g.M.Out.Output.key (g.M.Machine.means a.machine).entry (stage_of a) c.args.next.now c.args.outputs.now _
    (outputs_short (stage_of a) c.if-not-self.false (length c.args.next.now) (length c.args.outputs.now) (omega (arith, total)) (omega (arith, total))
    ∙ heard (stage_of a) _ so)

pub fill-requires : goal.fill-requires
fill-requires g c =
    let a = c.args.self.now in
    let m = g.M.Machine.means a.machine in
    let so = sound_so (stage_of a) tt tt c.in_ok-heard.ensures in
    record {
      blocks = (a.rounds, blocks_kept a (g.met.M.Machine.sizes a.machine) so c.inputs.result c.inputs.ensures);
      few = subst (λ (x : ℕ). a.parts * x ≤ 128 * m.inputs) (sym c.inputs.ensures) (mul-le-mul_right m.inputs a.few);
      room = (c.if-next-total.false, c.if-outputs-total.false);
    }

pub bounds-row-start : goal.bounds-row-start
bounds-row-start g c =
    let x = c.args.self.now.machine in
    let fits = start_fits (g.M.Machine.means x) (g.met.M.Machine.sizes x) in
    omega (arith, c.start-start.ensures)

pub returns : goal.returns
returns g c =
    let a = c.args.self.now in
    let next : List ℕ = c.args.next.now in
    let outs = c.args.outputs.now in
    let key = g.M.Out.Output.key in
    let m = g.M.Machine.means a.machine in
    let sizes = g.met.M.Machine.sizes a.machine in
    let closes = g.met.M.Machine.closed a.machine in
    let t : Stage = stage_of a in
    let N : Mealy = t.machine in
    let so = sound_so t tt tt c.in_ok-heard.ensures in
    let blocks = blocks_kept a sizes so c.inputs.result c.inputs.ensures in
    let total = blocks.all in
    let class : get_or (get_or a.rows a.rounds []) c.start-start.result 0 ≡ block N a.rounds m.start =
    ap (λ (x : ℕ). get_or (get_or a.rows a.rounds []) x 0) c.start-start.ensures
    ∙ blocks.held m.start (sound_fits m sizes so).starts in
    let made : Table = record { classes = a.parts; start = get_or (get_or a.rows a.rounds []) c.start-start.result 0 } in
    let answer : Ok made ≡ table_reply t (length next) (length outs) =
    ap (λ (x : ℕ). Ok (record { classes = x; start = made.start })) (counted a so)
    ∙ ap (λ (x : ℕ). Ok (record { classes = block_count N a.rounds; start = x })) class
    ∙ tabled t c.if-not-self.false (length next) (length outs) (omega (arith, total)) (omega (arith, total)) ∙ heard t _ so in
    let front : Front key m a.rounds (cell_count t) next outs c.fill.new.next c.fill.new.outputs =
    subst (λ (x : ℕ). Front key m a.rounds x next outs c.fill.new.next c.fill.new.outputs) total
    (c.fill.ensures a.rounds blocks) in
    let wrote : c.fill.new.next ≡ map (next_at N a.rounds) (range_with_len 0 (cell_count t)) ++ drop (cell_count t) next =
    nexts_are N a.rounds (cell_count t) next c.fill.new.next (omega (arith, total, front.next_size)) front.nexts front.next_rest in
    record {
      answer = answer;
      next = wrote ∙ ap (λ (x : Result Table Refusal). if_ok x (map (next_at N a.rounds) (range_with_len 0 (cell_count t)) ++ drop (cell_count t) next) next) answer;
      outputs = front.outputs;
      means =
          subst (λ (x : List ℕ). TableMeans key t (Ok made) x c.fill.new.outputs) (sym wrote)
          (table_means_at key m closes a.rounds a.settled (known a sizes closes) so c.if-not-self.false (drop (cell_count t) next) outs c.fill.new.outputs front.outputs made (counted a so) class);
    }
