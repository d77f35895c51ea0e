use Rattle.std.proofs.Common.{◌≡◌, ◌++◌, string_bytes}
use Rattle.std.specs.List.{range_with_len}
use Rattle.texts.specs.Each.{each}
use Rattle.listings.specs.Lists.{lists_in}
use Rattle.views.specs.Drawings.{edge_text}
use Rattle.views.proofs.drawings.push_edges.Given as goal

-- what was added so far
abbrev pub invariant-loop-input : goal.invariant-loop-input
invariant-loop-input l =
    string_bytes l.text ≡ string_bytes l.initial.text ++ each (edge_text (lists_in l.reduction) l.class) (range_with_len 0 l.input)
