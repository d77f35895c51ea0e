use Rattle.std.proofs.Common.{◌≡◌, ℕ, ◌+◌, ◌*◌, List, ◌++◌, get_or, string_bytes, codes, decimal, refl, ap, ◌∙◌}
use Rattle.texts.proofs.Pieces.{each_more}
use Rattle.listings.specs.Lines.{cell_text}
use Rattle.listings.specs.Lists.{Lists, lists_in}
use Rattle.listings.proofs.lines.push_cells.Goals as goal

pub loop-input-preserved : goal.loop-input-preserved
loop-input-preserved c =
    let l : Lists = lists_in c.args.reduction.now in
    let first : ℕ = c.args.class * l.inputs in
    let place : ℕ = first + c.loop-input.input in
    let text : List ℕ = string_bytes c.loop-input.text in
    let cell = c.cell_at-next.ensures in
    let output : ℕ = c.cell_at-next.result.output.number in
    let told : codes " " ++ (decimal c.cell_at-next.result.next ++ (codes " " ++ decimal output)) ≡ cell_text l place =
    ap (λ (n : ℕ). codes " " ++ (decimal n ++ (codes " " ++ decimal output))) cell.next
    ∙ ap (λ (n : ℕ). codes " " ++ (decimal (get_or l.next place 0) ++ (codes " " ++ decimal n))) cell.output in
    each_more (cell_text l) (string_bytes c.args.text.now) text _ first c.loop-input.input place c.loop-input.invariant
    (c.in_ok-write.ensures.bytes ∙ ap (λ (t : List ℕ). text ++ t) told) refl
