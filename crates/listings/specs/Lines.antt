-- A reduction in lines.
--   sizes_text                counts and start
--   settling_text, map_text   rounds, blocks and the start's class; the class of each state
--   cell_text, row_text       a cell by its place, and the cells of a class
--   apart_text                two classes and their word
--   listing_text              all lines
use Rattle.std.specs.Prelude.{ℕ, ◌*◌, List, ◌++◌, codes, decimal, slice_index}
use Rattle.std.specs.List.{range_with_len}
use Rattle.reductions.specs.Aparts.{Parting}
use Rattle.sheet.specs.declared.answers.Settling.{Settling}
use Rattle.texts.specs.Each.{each}
use Rattle.texts.specs.Numbers.{numbers_text}
use Rattle.listings.specs.Lists.{Lists}

abbrev pub sizes_text : Lists → List ℕ
sizes_text l =
    codes "states " ++ (decimal l.states ++ (codes " inputs " ++ (decimal l.inputs
    ++ (codes " start " ++ (decimal l.start ++ codes "\n")))))

abbrev pub settling_text : Settling → ℕ → List ℕ
settling_text s start =
    codes "rounds " ++ (decimal s.rounds ++ (codes " blocks " ++ (decimal s.count ++ (codes " start " ++ (decimal start ++ codes "\n")))))

abbrev pub map_text : List ℕ → List ℕ
map_text numbering = codes "map" ++ (numbers_text numbering ++ codes "\n")

-- the next class and the output at a place of the table
abbrev pub cell_text : Lists → ℕ → List ℕ
cell_text l x = codes " " ++ (decimal (slice_index l.next x) ++ (codes " " ++ decimal (slice_index l.outputs x)))

-- a class, and its cells from place c × k on
abbrev pub row_text : Lists → ℕ → List ℕ
row_text l c = codes "row " ++ (decimal c ++ (each (cell_text l) (range_with_len (c * l.inputs) l.inputs) ++ codes "\n"))

abbrev pub rows_text : Lists → List ℕ
rows_text l = each (row_text l) (range_with_len 0 l.table.classes)

-- two classes, and the word for their lowest states
abbrev pub apart_text : Parting → List ℕ
apart_text p =
    codes "apart " ++ (decimal p.first ++ (codes " " ++ (decimal p.second ++ (codes " by" ++ (numbers_text p.word ++ codes "\n")))))

abbrev pub aparts_text : List Parting → List ℕ
aparts_text = each apart_text

abbrev pub listing_text : Lists → List ℕ
listing_text l =
    sizes_text l
    ++ (settling_text l.settling l.table.start ++ (map_text l.numbering ++ (rows_text l ++ aparts_text l.aparts)))
