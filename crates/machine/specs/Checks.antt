-- What the check of a machine answers.
--   Before, FilledBefore   the order of the cells, and that all before one are filled
--   FirstHole              the first cell in that order that is not filled
--   Checked                the answer: each is the only one that fits
--   check_number           the number of a refusal
--   check_refusal_text     a refusal in words
use Rattle.std.specs.Prelude.{◌≡◌, ℕ, ◌<◌, ◌⊎◌, List, ◌++◌, Some, Ok, Err, codes, decimal, Option, Result}
use Rattle.std.specs.Fmt.{option_append}
use Rattle.machine.specs.Causes.{cause_number}
use Rattle.machine.specs.Meaning.{Meaning, Misfit, Filled, Sound}
use Rattle.machine.specs.declared.checks.CheckRefusal.{CheckRefusal}
use Rattle.machine.specs.declared.checks.CheckRefusal.TheVariants as refusal
use Rattle.machine.specs.declared.faults.Cause.{Cause}

-- the cell of state t at input j comes before that of s at i: states rising, then inputs rising
abbrev pub Before : ℕ → ℕ → ℕ → ℕ → Type 0
Before t j s i = (t < s) ⊎ ((t ≡ s) × (j < i))

-- the number of a refusal
abbrev pub check_number : {F : Type 0} → CheckRefusal F → ℕ
check_number (refusal.Misfit f) = 1
check_number (refusal.Hole s i f) = 2

module _ {F : Type 0} (root : F → Cause) (words : F → Option (List ℕ)) where
  -- the cause at the bottom of a fault, and the fault's own words
  abbrev pub cause_and_words : F → Option (List ℕ)
  cause_and_words f =
      option_append (Some (codes " cause ")) (option_append (Some (decimal (cause_number (root f)))) (option_append (Some (codes ", ")) (words f)))

  -- a refusal in words: its number, the place of a hole, and the fault
  abbrev pub check_refusal_text : CheckRefusal F → Option (List ℕ)
  check_refusal_text (refusal.Misfit f) =
      option_append (Some (codes "refused ")) (option_append (Some (decimal (check_number (refusal.Misfit f)))) (cause_and_words f))
  check_refusal_text (refusal.Hole s i f) =
      option_append (Some (codes "refused ")) (option_append (Some (decimal (check_number (refusal.Hole s i f)))) (option_append (Some (codes " state " ++ (decimal s ++ (codes " input " ++ decimal i)))) (cause_and_words f)))

module _ {O F : Type 0} where
  -- every cell before that of s at i is filled
  abbrev pub FilledBefore : Meaning O F → ℕ → ℕ → Type 0
  FilledBefore m s i = (t j : ℕ) → j < m.inputs → Before t j s i → Filled m t j

  -- s at i has the fault f in place of a cell, and every cell before it is filled
  pub record FirstHole (m : Meaning O F) (s i : ℕ) (f : F) : Type 0 where
    pub state : s < m.states
    pub input : i < m.inputs
    pub fault : m.entry s i ≡ Err f
    pub before : FilledBefore m s i

  abbrev pub Checked : {U : Type 0} → Meaning O F → Result U (CheckRefusal F) → Type 0
  Checked m (Ok u) = Sound m
  Checked m (Err (refusal.Misfit f)) = Misfit m × (m.entry 0 0 ≡ Err f)
  Checked m (Err (refusal.Hole s i f)) = FirstHole m s i f
