use Rattle.std.proofs.Common.{◌∙◌, arith, ◌≡◌, ◌+◌, ◌*◌, Ok, Err, Some, Result}
use Rattle.std.proofs.lemmas.Bool.Decides.{nat_tests}
use Rattle.machine.specs.declared.Cell.{Cell}
use Rattle.machine.specs.declared.faults.StoredFault.{StoredFault}
use Rattle.forms.specs.Grids.{grid_cell}
use Rattle.forms.proofs.Lookups.{grid_read_lem}
use Rattle.forms.proofs.grids.GridMachine.entry.Goals as goal
use Rattle.forms.proofs.grids.GridMachine.entry.Goals.{in-65535, in_default}

pub returns-in_default-2 : goal.returns-in_default-2
returns-in_default-2 g c =
    let s = c.args.self.now in
    let p = grid_read_lem s.states s.inputs c.args.state c.args.input c.index.result.now c.index-2.result.now s.next.items s.outputs.items
    c.in_ok-test_range.ensures (omega (arith, s.next_length)) (omega (arith, s.output_length)) c.index.ensures c.index-2.ensures in
    let e : Ok (record { next = c.index.result.now; output = c.index-2.result.now }) ≡ grid_cell s.states c.args.state c.args.input _ c.index.result.now (Some c.index-2.result.now) = grind (arith, nat_tests) in
    e ∙ p

pub returns : goal.returns
returns g c =
    let s = c.args.self.now in
    let p = grid_read_lem s.states s.inputs c.args.state c.args.input c.index.result.now c.index-2.result.now s.next.items s.outputs.items
    c.in_ok-test_range.ensures (omega (arith, s.next_length)) (omega (arith, s.output_length)) c.index.ensures c.index-2.ensures in
    let e : ◌≡◌ {A = Result (Cell g.row.O.Denot) StoredFault} (Err (record { cause = c.match-cell.cause; state = c.args.state; input = c.args.input; place = c.args.state * s.inputs + c.args.input })) (grid_cell s.states c.args.state c.args.input (c.args.state * s.inputs + c.args.input) c.index.result.now (Some c.index-2.result.now)) =
    elim c.match-cell.branch [ in-65535 w ↦ grind (arith, nat_tests) | in_default w ↦ grind (arith, nat_tests) ] in
    e ∙ p
