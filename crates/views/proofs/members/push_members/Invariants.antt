use Rattle.std.proofs.Common.{◌≡◌, eqb, ◌++◌, get_or, string_bytes}
use Rattle.std.specs.List.{range_with_len}
use Rattle.texts.specs.Each.{each}
use Rattle.views.specs.Members.{member_text}
use Rattle.views.proofs.members.push_members.Given as goal

-- what was added so far
abbrev pub invariant-loop-state : goal.invariant-loop-state
invariant-loop-state l =
    string_bytes l.text
    ≡ string_bytes l.initial.text ++ each (λ s. member_text (eqb (get_or l.numbering s 0) l.class) s) (range_with_len 0 l.state-counter)
