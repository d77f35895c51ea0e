use Rattle.std.proofs.Common.{◌≡◌, ◌<◌, length, ◌∙◌, arith, lit<}
use Rattle.machine.proofs.Theory.{few_inputs}
use Rattle.writing.specs.Runs.{no_cell, row_of}
use Rattle.writing.proofs.Kept.{pushed, kept}
use Rattle.writing.proofs.rows.Row.read.Goals as goal

pub push-requires : goal.push-requires
push-requires g c =
    let at = c.args.machine.now in
    let few = few_inputs (g.M.Machine.means at) (g.met.M.Machine.sizes at) in
    let h : length c.loop-input.self.cells.items < 32 = omega (arith, few, c.loop-input.invariant.long, c.inputs-input-end.ensures) in
    (lit< tt, h)

pub loop-input-preserved : goal.loop-input-preserved
loop-input-preserved g c =
    let old = c.loop-input.invariant in
    record {
      long = omega (arith, c.push.ensures.len, old.long);
      each = pushed c.loop-input.self.cells.items c.push.new.self.items c.loop-input.input c.cell_or_none.result (row_of (g.M.Machine.means c.args.machine.now) c.args.state) no_cell
          old.long old.each c.push.ensures.items c.cell_or_none.ensures;
    }

pub returns : goal.returns
returns g c =
    let at = c.args.machine.now in
    let all : c.loop-input.input ≡ (g.M.Machine.means at).inputs = omega (arith, c.inputs-input-end.ensures) in
    record {
      inputs = c.loop-input.invariant.long ∙ all;
      cells = kept (g.M.Machine.means at) c.args.state _ c.loop-input.self.cells.items (g.met.M.Machine.inside at) all
          c.loop-input.invariant.long c.loop-input.invariant.each;
    }
