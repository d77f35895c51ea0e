use Rattle.std.proofs.Common.{take, string_bytes}
use Rattle.texts.specs.Each.{AddsPrinted}
use Rattle.texts.proofs.push_each.Given as goal

-- what was added so far
abbrev pub invariant-loop-item : goal.invariant-loop-item
invariant-loop-item g l =
    AddsPrinted g.T.Display.output (take l.item-index l.items) (string_bytes l.initial.text) (string_bytes l.text)
