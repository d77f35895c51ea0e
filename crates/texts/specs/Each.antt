-- What each item of a list adds, one after the other.
--   each                   by what an item adds
--   printed, AddsPrinted   by what an item prints, after a space
use Rattle.std.specs.Prelude.{◌≡◌, ℕ, List, [], ◌++◌, IsSome, Option, codes, unwrap_or}
use Rattle.std.specs.List.{flat_map}

abbrev pub each : {A B : Type 0} → (A → List B) → List A → List B
each f xs = flat_map f xs

-- a space, and what is printed of an item
abbrev pub printed : {A : Type 0} → (A → Option (List ℕ)) → A → List ℕ
printed output x = codes " " ++ unwrap_or (output x) []

-- new is old and then what each item prints; it says nothing unless each value of the type has a known text
abbrev pub AddsPrinted : {A : Type 0} → (A → Option (List ℕ)) → List A → List ℕ → List ℕ → Type 0
AddsPrinted {A = A} output xs old new = ((x : A) → IsSome (output x)) → new ≡ old ++ each (printed output) xs
