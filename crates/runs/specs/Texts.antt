-- Calls and their answers in words.
use Rattle.std.specs.Prelude.{ℕ, List, ◌++◌, Ok, Err, codes, decimal}
use Rattle.runs.specs.declared.Answer.{Answer}
use Rattle.runs.specs.declared.Answer.TheVariants as answer
use Rattle.runs.specs.declared.Call.{Call}
use Rattle.runs.specs.declared.Call.TheVariants as call
use Rattle.sheet.specs.Texts.{refusal_text, round_text, pair_text, table_text}

abbrev pub call_text : Call → List ℕ
call_text call.Round = codes "round"
call_text (call.Pair s t) = codes "pair " ++ (decimal s ++ (codes " " ++ decimal t))
call_text call.Map = codes "map"
call_text (call.Word s t) = codes "word " ++ (decimal s ++ (codes " " ++ decimal t))
call_text call.Table = codes "table"

abbrev pub answer_text : Answer → List ℕ
answer_text (answer.Round (Ok a)) = round_text a
answer_text (answer.Round (Err e)) = refusal_text e
answer_text (answer.Pair (Ok a)) = pair_text a
answer_text (answer.Pair (Err e)) = refusal_text e
answer_text (answer.Map (Ok u)) = codes "done"
answer_text (answer.Map (Err e)) = refusal_text e
answer_text (answer.Word (Ok n)) = decimal n
answer_text (answer.Word (Err e)) = refusal_text e
answer_text (answer.Table (Ok t)) = table_text t
answer_text (answer.Table (Err e)) = refusal_text e
