-- The states that a class joins.
use Rattle.std.specs.Prelude.{ℕ, Bool, true, false, List, [], length, ◌==◌, slice_index}
use Rattle.std.specs.List.{range_with_len}
use Rattle.texts.specs.Each.{each}
use Rattle.texts.specs.Numbers.{spaced}

-- a state, if it is one of them
abbrev pub member_text : Bool → ℕ → List ℕ
member_text true s = spaced s
member_text false s = []

-- the states with the number c, rising
abbrev pub members_text : List ℕ → ℕ → List ℕ
members_text numbering c =
    each (λ s. member_text (slice_index numbering s == c) s) (range_with_len 0 (length numbering))
