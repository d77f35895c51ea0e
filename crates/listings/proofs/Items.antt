-- What stands at a place of a list, or else the default.
use Rattle.std.proofs.Common.{◌≡◌, ℕ, List, map, get_or, Some, None, Option, unwrap_or, sym, ap, ◌∙◌}
use Rattle.std.proofs.lemmas.Option.{slice_get-map, unwrap_or-slice_get}
use Rattle.std.specs.List.{slice_get}
use Rattle.std.specs.Option.{UnwrapsOrElse, option_map}

-- what f reads of an item or a default
module _ {A B : Type 0} (f : A → B) (d : B) (P : A → Type 0) (defaults : (x : A) → P x → f x ≡ d) (r : A) where
  read : (o : Option A) → UnwrapsOrElse o P r → f r ≡ unwrap_or (option_map f o) d
  read None h = defaults r h
  read (Some x) h = ap f h

  pub read_at : (xs : List A) (i : ℕ) → UnwrapsOrElse (slice_get xs i) P r → f r ≡ get_or (map f xs) i d
  read_at xs i h =
      read (slice_get xs i) h ∙ ap (λ (o : Option B). unwrap_or o d) (sym (slice_get-map f xs i)) ∙ unwrap_or-slice_get (map f xs) i d

found : (o : Option ℕ) (r : ℕ) → UnwrapsOrElse o (λ x. x ≡ 0) r → r ≡ unwrap_or o 0
found None r h = h
found (Some x) r h = h

-- a number at a place, or 0
pub number_found : (xs : List ℕ) (i r : ℕ) → UnwrapsOrElse (slice_get xs i) (λ x. x ≡ 0) r → r ≡ get_or xs i 0
number_found xs i r h = found (slice_get xs i) r h ∙ unwrap_or-slice_get xs i 0
