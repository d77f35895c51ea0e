-- Answers as lines.
--   answer_line, map_line                    what a call on a sheet answers
--   fault_line, entry_line                   a fault, by the cause at its bottom and its words; an entry
--   check_refusal_line, check_line, written_line   why a machine is not sound; what its check answers, and its writing
use Rattle.std.specs.Prelude.{ℕ, List, ◌++◌, Some, Ok, Err, codes, decimal, Option, Result}
use Rattle.machine.specs.Causes.{cause_number}
use Rattle.machine.specs.Checks.{check_refusal_text}
use Rattle.machine.specs.declared.Cell.{Cell}
use Rattle.machine.specs.declared.checks.CheckRefusal.{CheckRefusal}
use Rattle.machine.specs.declared.faults.Cause.{Cause}
use Rattle.sheet.specs.Texts.{refusal_text}
use Rattle.sheet.specs.declared.answers.Refusal.{Refusal}
use Rattle.std.specs.Fmt.{option_append}
use Rattle.writing.specs.Writes.{write_number}
use Rattle.writing.specs.declared.writes.WriteRefusal.{WriteRefusal}
use Rattle.writing.specs.declared.writes.WriteRefusal.TheVariants as refusal

-- the answer in its own words, or the refusal
abbrev pub answer_line : {A : Type 0} → (A → Option (List ℕ)) → Result A Refusal → Option (List ℕ)
answer_line words (Ok a) = option_append (words a) (Some (codes "\n"))
answer_line words (Err e) = Some (refusal_text e ++ codes "\n")

-- a map has no words of its own
abbrev pub map_line : Result (Unit {0}) Refusal → List ℕ
map_line (Ok u) = codes "done\n"
map_line (Err e) = refusal_text e ++ codes "\n"

-- the cause at the bottom, and the fault's own words
abbrev pub fault_line : Cause → Option (List ℕ) → Option (List ℕ)
fault_line c words =
    option_append (Some (codes "cause ")) (option_append (Some (decimal (cause_number c))) (option_append (Some (codes ", ")) (option_append words (Some (codes "\n")))))

module _ {F : Type 0} (root : F → Cause) (words : F → Option (List ℕ)) where
  -- the next state and the output of a cell, or the fault in its place
  abbrev pub entry_line : {O : Type 0} → (O → Option (List ℕ)) → Result (Cell O) F → Option (List ℕ)
  entry_line output (Ok c) = option_append (Some (decimal c.next ++ codes " ")) (option_append (output c.output) (Some (codes "\n")))
  entry_line output (Err f) = fault_line (root f) (words f)

  -- the refusal in its own words
  abbrev pub check_refusal_line : CheckRefusal F → Option (List ℕ)
  check_refusal_line e = option_append (check_refusal_text root words e) (Some (codes "\n"))

  abbrev pub check_line : {U : Type 0} → Result U (CheckRefusal F) → Option (List ℕ)
  check_line (Ok u) = Some (codes "sound\n")
  check_line (Err e) = check_refusal_line e

  -- the length written, or the length needed
  abbrev pub written_line : Result ℕ (WriteRefusal F) → Option (List ℕ)
  written_line (Ok n) = Some (decimal n ++ codes "\n")
  written_line (Err (refusal.Unsound e)) = check_refusal_line e
  written_line (Err (refusal.Short n)) =
      Some (codes "refused " ++ (decimal (write_number {F = F} (refusal.Short n)) ++ (codes " " ++ (decimal n ++ codes "\n"))))
