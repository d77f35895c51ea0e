-- The reduced machine as Graphviz text.
--   node_text, edge_text   a class with its states; a class at an input
--   class_text             a class with its edges
--   drawing_text           the whole graph, with an arrow to the start's class
use Rattle.std.specs.Prelude.{ℕ, ◌+◌, ◌*◌, List, ◌++◌, codes, decimal, slice_index}
use Rattle.std.specs.List.{range_with_len}
use Rattle.listings.specs.Lists.{Lists}
use Rattle.texts.specs.Each.{each}
use Rattle.views.specs.Members.{members_text}

abbrev pub node_text : List ℕ → ℕ → List ℕ
node_text numbering c =
    codes "  " ++ (decimal c ++ (codes " [label=\"" ++ (decimal c ++ (codes ":" ++ (members_text numbering c ++ codes "\"]\n")))))

abbrev pub edge_text : Lists → ℕ → ℕ → List ℕ
edge_text l c i =
    let x : ℕ = c * l.inputs + i in
    codes "  " ++ (decimal c ++ (codes " -> " ++ (decimal (slice_index l.next x) ++ (codes " [label=\"" ++ (decimal i
    ++ (codes "/" ++ (decimal (slice_index l.outputs x) ++ codes "\"]\n")))))))

abbrev pub edges_from : Lists → ℕ → List ℕ
edges_from l c = each (edge_text l c) (range_with_len 0 l.inputs)

abbrev pub class_text : Lists → ℕ → List ℕ
class_text l c = node_text l.numbering c ++ edges_from l c

abbrev pub classes_text : Lists → List ℕ
classes_text l = each (class_text l) (range_with_len 0 l.table.classes)

abbrev pub drawing_text : Lists → List ℕ
drawing_text l =
    codes "digraph reduced {\n  rankdir=LR\n  start [shape=point]\n  start -> "
    ++ (decimal l.table.start ++ (codes "\n" ++ (classes_text l ++ codes "}\n")))
