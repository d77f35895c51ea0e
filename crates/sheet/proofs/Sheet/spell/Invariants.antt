use Rattle.sheet.proofs.Spelling.{Spelling}
use Rattle.sheet.proofs.Sheet.spell.Given as goal

abbrev pub invariant-loop-place : goal.invariant-loop-place
invariant-loop-place g l =
    Spelling g.M.Out.Output.key (g.M.Machine.means l.self.machine) l.j l.s l.t l.initial.out l.place l.a l.b l.out
