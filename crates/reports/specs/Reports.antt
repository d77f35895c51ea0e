-- What programs say of a chain that they open and check.
--   refused_text, sizes_text, hole_text   the lines
--   unsound_text, check_text              what is said of a check's refusal, and of any answer
--   Refused, Unsound                      the report of a refused opening, and of a refused machine
--   Described, Reported                   the report of a machine, and of an opening
use Rattle.std.specs.Prelude.{◌≡◌, ℕ, Bool, false, List, ◌++◌, is_ok, Ok, Err, codes, decimal, Result}
use Rattle.machine.specs.Causes.{cause_number}
use Rattle.machine.specs.Checks.{Checked}
use Rattle.machine.specs.Meaning.{Meaning}
use Rattle.machine.specs.declared.checks.CheckRefusal.{CheckRefusal}
use Rattle.machine.specs.declared.checks.CheckRefusal.TheVariants as refusal
use Rattle.machine.specs.declared.faults.StoredFault.{StoredFault}
use Rattle.machine.specs.declared.outputs.Command.{Command}
use Rattle.forms.specs.declared.openings.OpenRefusal.{OpenRefusal}
use Rattle.forms.specs.Openings.{open_number}

-- a refusal with nothing but its number
abbrev pub refused_text : ℕ → List ℕ
refused_text n = codes "refused " ++ (decimal n ++ codes "\n")

-- the counts and the start of a machine
abbrev pub sizes_text : Meaning Command StoredFault → List ℕ
sizes_text m =
    codes "states " ++ (decimal m.states ++ (codes " inputs " ++ (decimal m.inputs
    ++ (codes " start " ++ (decimal m.start ++ codes "\n")))))

-- a hole, with the cause and the record of its fault
abbrev pub hole_text : ℕ → ℕ → StoredFault → List ℕ
hole_text s i f =
    codes "refused 2 state " ++ (decimal s ++ (codes " input " ++ (decimal i
    ++ (codes " cause " ++ (decimal (cause_number f.cause) ++ (codes " record " ++ (decimal f.place ++ codes "\n")))))))

abbrev pub unsound_text : CheckRefusal StoredFault → List ℕ
unsound_text (refusal.Misfit f) = refused_text 1
unsound_text (refusal.Hole s i f) = hole_text s i f

abbrev pub check_text : {U : Type 0} → Meaning Command StoredFault → Result U (CheckRefusal StoredFault) → List ℕ
check_text m (Ok u) = sizes_text m
check_text m (Err (refusal.Misfit f)) = refused_text 1
check_text m (Err (refusal.Hole s i f)) = hole_text s i f

-- a machine that the check refused
abbrev pub Unsound : CheckRefusal StoredFault → List ℕ → Bool → Type 0
Unsound e text accepted = (text ≡ unsound_text e) × (accepted ≡ false)

-- the text is what is said of the check's answer, and tells whether the machine was accepted
abbrev pub Described : Meaning Command StoredFault → List ℕ → Bool → Type 0
Described m text accepted =
    (r : Result (Unit {0}) (CheckRefusal StoredFault)) × Checked m r × (text ≡ check_text m r) × (accepted ≡ is_ok r)

-- an opening that was refused
abbrev pub Refused : OpenRefusal → List ℕ → Bool → Type 0
Refused e text accepted = (text ≡ refused_text (open_number e)) × (accepted ≡ false)

-- the report of an opening
abbrev pub Reported : Result (Meaning Command StoredFault) OpenRefusal → List ℕ → Bool → Type 0
Reported (Ok m) text accepted = Described m text accepted
Reported (Err e) text accepted = (text ≡ refused_text (open_number e)) × (accepted ≡ false)
