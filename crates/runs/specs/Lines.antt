-- A kept line as an entry of a log.
use Rattle.std.specs.Prelude.{vec_items}
use Rattle.runs.specs.declared.logs.Line.{Line}
use Rattle.runs.specs.Entries.{Entry, entry_of}

abbrev pub entry_at : {O : Type 0} → Line O → Entry O
entry_at l = entry_of l.call l.answer (vec_items l.numbers) (vec_items l.next) (vec_items l.outputs)
