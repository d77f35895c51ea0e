use Rattle.std.proofs.Common.{◌≡◌, ◌++◌, vec_items, string_bytes}
use Rattle.std.specs.List.{range_with_len}
use Rattle.texts.specs.Each.{each}
use Rattle.views.specs.Cards.{mode_text}
use Rattle.views.proofs.cards.push_modes.Given as goal

-- what was added so far
abbrev pub invariant-loop-class : goal.invariant-loop-class
invariant-loop-class l =
    string_bytes l.text ≡ string_bytes l.initial.text ++ each (mode_text (vec_items l.reduction.map)) (range_with_len 0 l.class)
