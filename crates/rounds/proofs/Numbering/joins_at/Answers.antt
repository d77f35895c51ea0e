use Rattle.std.proofs.Common.{Bool, ◌&&◌, eqb, get_or, sym, ap, ◌∙◌}
use Rattle.rounds.proofs.Joining.{join_alike}
use Rattle.rounds.proofs.Numbering.joins_at.Goals as goal

-- Both are cells: the answer is the test of their keys and numbers.
pub returns-then-alike : goal.returns-then-alike
returns-then-alike g c =
    let row = c.args.self.now.row.now in
    let e = join_alike g.M.Out.Output.key row _ _ c.in-Ok.a c.in-Ok-entry.b c.in-Ok.ensures c.in-Ok-entry.ensures c.alike.result c.alike.ensures in
    c.in_one_block.ensures ∙ sym (e ∙ ap (λ (b : Bool). b && eqb (get_or row c.in-Ok.a.next 0) (get_or row c.in-Ok-entry.b.next 0)) c.if-alike.true)

pub returns-else-alike : goal.returns-else-alike
returns-else-alike g c =
    let row = c.args.self.now.row.now in
    let e = join_alike g.M.Out.Output.key row _ _ c.in-Ok.a c.in-Ok-entry.b c.in-Ok.ensures c.in-Ok-entry.ensures c.alike.result c.alike.ensures in
    c.if-alike.false ∙ sym (e ∙ ap (λ (b : Bool). b && eqb (get_or row c.in-Ok.a.next 0) (get_or row c.in-Ok-entry.b.next 0)) c.if-alike.false)
