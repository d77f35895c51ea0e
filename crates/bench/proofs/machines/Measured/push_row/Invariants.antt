use Rattle.std.proofs.Common.{◌≡◌, [], ◌∷◌, ◌++◌, vec_items}
use Rattle.forms.specs.Entries.{command}
use Rattle.bench.specs.Tables.{up_to}
use Rattle.bench.proofs.machines.Measured.push_row.Given as goal

-- the cells before this input are added
abbrev pub invariant-loop-input : goal.invariant-loop-input
invariant-loop-input l =
    (vec_items l.next ≡ vec_items l.initial.next ++ up_to (λ _. l.state ∷ []) l.input)
    × (vec_items l.outputs ≡ vec_items l.initial.outputs ++ up_to (λ i. command i ∷ []) l.input)
