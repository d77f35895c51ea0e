use Rattle.std.proofs.Common.{◌≡◌, ◌*◌, ◌++◌, string_bytes}
use Rattle.std.specs.List.{range_with_len}
use Rattle.texts.specs.Each.{each}
use Rattle.listings.specs.Lines.{cell_text}
use Rattle.listings.specs.Lists.{lists_in}
use Rattle.listings.proofs.lines.push_cells.Given as goal

-- what was added so far
abbrev pub invariant-loop-input : goal.invariant-loop-input
invariant-loop-input l =
    string_bytes l.text
    ≡ string_bytes l.initial.text ++ each (cell_text (lists_in l.reduction)) (range_with_len (l.class * l.reduction.inputs) l.input)
