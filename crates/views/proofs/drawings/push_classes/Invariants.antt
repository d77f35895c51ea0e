use Rattle.std.proofs.Common.{◌≡◌, ◌++◌, string_bytes}
use Rattle.std.specs.List.{range_with_len}
use Rattle.texts.specs.Each.{each}
use Rattle.listings.specs.Lists.{lists_in}
use Rattle.views.specs.Drawings.{class_text}
use Rattle.views.proofs.drawings.push_classes.Given as goal

-- what was added so far
abbrev pub invariant-loop-class : goal.invariant-loop-class
invariant-loop-class l =
    string_bytes l.text ≡ string_bytes l.initial.text ++ each (class_text (lists_in l.reduction)) (range_with_len 0 l.class)
