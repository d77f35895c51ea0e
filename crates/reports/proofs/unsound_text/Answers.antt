use Rattle.std.proofs.Common.{◌≡◌, ℕ, ◌++◌, codes, decimal, refl, ◌∙◌, lit<}
use Rattle.std.proofs.lemmas.Fmt.{decimal_digit}
use Rattle.std.proofs.lemmas.Result.{IfOk-weaker}
use Rattle.machine.specs.Causes.{cause_number}
use Rattle.machine.specs.Checks.{check_number}
use Rattle.machine.specs.declared.checks.CheckRefusal.{CheckRefusal}
use Rattle.machine.specs.declared.checks.CheckRefusal.TheVariants as refusal
use Rattle.machine.specs.declared.faults.StoredFault.{StoredFault}
use Rattle.reports.specs.Reports.{unsound_text}
use Rattle.reports.proofs.unsound_text.Goals as goal

-- a hole's line, with the numbers as they are asked for
hole_line : (e : CheckRefusal StoredFault) (n s i k : ℕ) (f : StoredFault) → e ≡ refusal.Hole s i f → n ≡ check_number e → k ≡ cause_number f.cause
    → codes "refused " ++ (decimal n ++ (codes " state " ++ (decimal s ++ (codes " input " ++ (decimal i
    ++ (codes " cause " ++ (decimal k ++ (codes " record " ++ (decimal f.place ++ codes "\n")))))))))
    ≡ unsound_text e
hole_line e n s i k f is number cause = rw (number, cause, is, decimal_digit 2 (lit< tt)) refl

pub returns-in-Hole : goal.returns-in-Hole
returns-in-Hole c =
    let line = hole_line c.args.refusal.now c.number-number.result c.in-Hole.state c.in-Hole.input c.number-cause.result c.in-Hole.fault c.in-Hole.is c.number-number.ensures c.number-cause.ensures in
    IfOk-weaker c.format-in-Hole.result _ _ (λ x told. told ∙ line) c.format-in-Hole.ensures.ok
