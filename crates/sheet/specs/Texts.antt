-- What a sheet answers, and why it refuses, in words.
--   number_text, refusal_text                           a refusal's number, and the value that comes with it
--   round_text, settling_text, pair_text, table_text    what a call answers
use Rattle.std.specs.Prelude.{ℕ, List, ◌++◌, Some, None, codes, decimal, Option}
use Rattle.sheet.specs.Refusals.{refusal_number, refusal_value}
use Rattle.sheet.specs.declared.answers.Pair.{Pair}
use Rattle.sheet.specs.declared.answers.Pair.TheVariants as pairs
use Rattle.sheet.specs.declared.answers.Refusal.{Refusal}
use Rattle.sheet.specs.declared.answers.Round.{Round}
use Rattle.sheet.specs.declared.answers.Round.TheVariants as round
use Rattle.sheet.specs.declared.answers.Settling.{Settling}
use Rattle.sheet.specs.declared.answers.Table.{Table}

-- a number, and the value that comes with it
abbrev pub number_text : ℕ → Option ℕ → List ℕ
number_text n (Some v) = codes "refused " ++ (decimal n ++ (codes " " ++ decimal v))
number_text n None = codes "refused " ++ decimal n

abbrev pub refusal_text : Refusal → List ℕ
refusal_text e = number_text (refusal_number e) (refusal_value e)

abbrev pub round_text : Round → List ℕ
round_text (round.Split c) = codes "split " ++ decimal c
round_text (round.Settled c) = codes "settled " ++ decimal c

abbrev pub settling_text : Settling → List ℕ
settling_text a = codes "rounds " ++ (decimal a.rounds ++ (codes " count " ++ decimal a.count))

abbrev pub pair_text : Pair → List ℕ
pair_text (pairs.Apart j) = codes "apart " ++ decimal j
pair_text pairs.Together = codes "together"
pair_text pairs.Equivalent = codes "equivalent"

abbrev pub table_text : Table → List ℕ
table_text t = codes "classes " ++ (decimal t.classes ++ (codes " start " ++ decimal t.start))
