-- A log as text, a line for each call.
--   kept_text, table_text, buffers_text   the buffers that a call may write, as it left them
--   line_text                             the whole line
use Rattle.std.specs.Prelude.{ℕ, List, [], ◌++◌, map, codes}
use Rattle.machine.specs.declared.outputs.Command.{Command}
use Rattle.runs.specs.Entries.{Entry}
use Rattle.runs.specs.Texts.{call_text, answer_text}
use Rattle.runs.specs.declared.Call.{Call}
use Rattle.runs.specs.declared.Call.TheVariants as call
use Rattle.texts.specs.Numbers.{numbers_text}

-- a buffer's numbers
abbrev pub kept_text : List ℕ → List ℕ
kept_text ns = codes " with" ++ numbers_text ns

-- a command's number
abbrev pub number_of : Command → ℕ
number_of c = c.number

-- the two buffers of a table
abbrev pub table_text : List ℕ → List Command → List ℕ
table_text next outs = kept_text next ++ (codes " and" ++ numbers_text (map number_of outs))

-- the buffers that a call may write
abbrev pub buffers_of : Call → List ℕ → List ℕ → List Command → List ℕ
buffers_of call.Round numbers next outs = []
buffers_of (call.Pair s t) numbers next outs = []
buffers_of call.Map numbers next outs = kept_text numbers
buffers_of (call.Word s t) numbers next outs = kept_text numbers
buffers_of call.Table numbers next outs = table_text next outs

abbrev pub buffers_text : Entry Command → List ℕ
buffers_text e = buffers_of e.call e.left.numbers e.left.next e.left.outputs

abbrev pub line_text : Entry Command → List ℕ
line_text e = call_text e.call ++ (codes ": " ++ (answer_text e.answer ++ (buffers_text e ++ codes "\n")))
