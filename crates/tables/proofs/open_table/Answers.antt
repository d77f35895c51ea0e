use Rattle.std.proofs.Common.{◌≡◌, ℕ, ◌*◌, List, take, vec_items, ap, ◌∙◌}
use Rattle.std.specs.Result.{result_map_both}
use Rattle.forms.specs.Forms.{grid_of}
use Rattle.forms.specs.Grids.{grid_opening}
use Rattle.tables.proofs.Cells.{table_means}
use Rattle.tables.proofs.open_table.Goals as goal

pub returns : goal.returns
returns g c =
    let t = c.args.table in
    let k = c.args.inputs in
    let next = vec_items c.args.next in
    let outs = vec_items c.args.outputs in
    let e : result_map_both grid_of (λ e. e) c.open.result
    ≡ grid_opening t.classes k t.start (take (t.classes * k) next) (take (t.classes * k) outs) =
    c.open.ensures
    ∙ (ap (λ (l : List ℕ). grid_opening t.classes k t.start l (vec_items c.truncate-2.new.self)) c.truncate.ensures.items
    ∙ ap (λ (l : List g.row.O.Denot). grid_opening t.classes k t.start (take (t.classes * k) next) l) c.truncate-2.ensures.items) in
    record { answer = e; means = table_means g.O.Output.key t.classes k t.start next outs c.open.result e }
