-- The lists of a reduction are those that its machine gives.
use Rattle.std.proofs.Common.{◌≡◌, ℕ, List, [], ◌∷◌, map, Some, vec_items, sym, refl, ap, ◌∙◌}
use mathlib.Core.List.{map-map}
use Rattle.std.specs.List.{range_with_len}
use Rattle.machine.specs.Meaning.{Meaning}
use Rattle.machine.specs.declared.outputs.Command.{Command}
use Rattle.reductions.specs.Aparts.{Parting}
use Rattle.reductions.specs.Reductions.{IsReduction, output_at, settled_stage}
use Rattle.reductions.specs.declared.Reduction.{Reduction}
use Rattle.sheet.specs.Tables.{cell_count}
use Rattle.sheet.specs.declared.answers.Settling.{Settling}
use Rattle.sheet.specs.declared.answers.Table.{Table}
use Rattle.listings.specs.Lists.{Lists, command_key, number_at, lists_in, lists_of}

numbers_some : (xs : List Command) → map number_at (map Some xs) ≡ map (λ (c : Command). c.number) xs
numbers_some [] = refl
numbers_some (x ∷ xs) = ap (λ (l : List ℕ). x.number ∷ l) (numbers_some xs)

-- Lists that agree in each part are the same.
built : (q q' k k' i i' : ℕ) (s s' : Settling) (t t' : Table) (b b' n n' o o' : List ℕ) (p p' : List Parting)
    → q ≡ q' → k ≡ k' → i ≡ i' → s ≡ s' → t ≡ t' → b ≡ b' → n ≡ n' → o ≡ o' → p ≡ p'
    → ◌≡◌ {A = Lists} (record { states = q; inputs = k; start = i; settling = s; table = t; numbering = b; next = n; outputs = o; aparts = p })
    (record { states = q'; inputs = k'; start = i'; settling = s'; table = t'; numbering = b'; next = n'; outputs = o'; aparts = p' })
built q q' k k' i i' s s' t t' b b' n n' o o' p p' e1 e2 e3 e4 e5 e6 e7 e8 e9 = cc

-- A reduction has the lists of its machine.
pub lists_are : {F : Type 0} (m : Meaning Command F) (x : Reduction Command) → IsReduction command_key m x → lists_in x ≡ lists_of m
lists_are m x is =
    let outputs : map (λ (c : Command). c.number) (vec_items x.outputs) ≡ (lists_of m).outputs =
    sym (numbers_some (vec_items x.outputs)) ∙ ap (map number_at) is.handed.outputs
    ∙ map-map number_at (output_at m.entry (settled_stage command_key m)) (range_with_len 0 (cell_count (settled_stage command_key m))) in
    built _ _ _ _ _ _ _ _ _ _ _ _ _ _ _ _ _ _ is.states is.inputs is.start is.settling is.handed.answer is.numbering is.handed.next outputs is.aparts
