-- The number of each refusal, and the value that comes with it.
use Rattle.std.specs.Prelude.{ℕ, Some, None, Option}
use Rattle.sheet.specs.declared.answers.Refusal.{Refusal}
use Rattle.sheet.specs.declared.answers.Refusal.TheVariants as refusal
use Rattle.sheet.specs.declared.answers.TableBuffer.{TableBuffer}
use Rattle.sheet.specs.declared.answers.TableBuffer.TheVariants as buffer

-- the number under which a refusal is known
abbrev pub refusal_number : Refusal → ℕ
refusal_number refusal.Unsound = 3
refusal_number refusal.AlreadySettled = 4
refusal_number refusal.NoSuchState = 5
refusal_number refusal.NotApart = 6
refusal_number refusal.Unsettled = 7
refusal_number (refusal.Short needed) = 8
refusal_number (refusal.ShortTable which) = 8

-- the place of a table's buffer among the two
abbrev pub buffer_number : TableBuffer → ℕ
buffer_number buffer.Next = 1
buffer_number buffer.Outputs = 2

-- the length needed, or which buffer of a table
abbrev pub refusal_value : Refusal → Option ℕ
refusal_value refusal.Unsound = None
refusal_value refusal.AlreadySettled = None
refusal_value refusal.NoSuchState = None
refusal_value refusal.NotApart = None
refusal_value refusal.Unsettled = None
refusal_value (refusal.Short needed) = Some needed
refusal_value (refusal.ShortTable which) = Some (buffer_number which)
