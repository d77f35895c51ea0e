-- A text, or any list, made piece by piece.
use Rattle.std.proofs.Common.{◌≡◌, ℕ, suc, ◌+◌, ◌-◌, ◌<◌, ◌≤◌, List, [], ◌∷◌, ◌++◌, length, get_or, take, decimal, map, Some, sym, refl, ap, ◌∙◌, append_assoc, append-nil, arith}
use Rattle.std.proofs.lemmas.List.{map_more}
use Rattle.std.proofs.lemmas.List.Folds.{flat_map-map}
use Rattle.std.proofs.lemmas.List.FromFn.{map-range_with_len_more}
use Rattle.std.proofs.lemmas.Grind.{flat_map-append}
use Rattle.std.specs.List.{flat_map, range_with_len}
use Rattle.texts.specs.Each.{each, AddsPrinted}
use Rattle.texts.specs.Numbers.{spaced, numbers_text}

-- one item more, of which g reads what f adds
pub each_item : {X A B : Type 0} (f : A → List B) (g : X → A) (old mid new : List B) (xs : List X) (i : ℕ) (x : X) → i < length xs → x ≡ get_or xs i x
    → mid ≡ old ++ each f (map g (take i xs)) → new ≡ mid ++ f (g x) → new ≡ old ++ each f (map g (take (i + 1) xs))
each_item {X = X} {A = A} {B = B} f g old mid new xs i x h is so more =
    let done : List B = each f (map g (take i xs)) in
    let whole : each f (map g (take (i + 1) xs)) ≡ done ++ f (g x) =
    ap (flat_map f) (map_more g xs i x h) ∙ flat_map-append f (map g (take i xs)) (g (get_or xs i x) ∷ [])
    ∙ ap (λ (y : X). done ++ (f (g y) ++ [])) (sym is) ∙ simp append-nil in
    more ∙ ap (λ (t : List B). t ++ f (g x)) so ∙ append_assoc old done (f (g x)) ∙ ap (λ (t : List B). old ++ t) (sym whole)

-- numbers in a row, of which n - i are left at a + i
module _ {B : Type 0} (f : ℕ → List B) where
  pub each_next : (old : List B) (a n i x : ℕ) → i < n → x ≡ a + i
      → (old ++ f x) ++ each f (range_with_len (a + (i + 1)) (n - (i + 1))) ≡ old ++ each f (range_with_len (a + i) (n - i))
  each_next old a n i x h e =
      let left : n - i ≡ suc (n - (i + 1)) = omega arith in
      let next : a + i + 1 ≡ a + (i + 1) = omega arith in
      rw (left, next, e) (simp append_assoc)

  pub each_end : (old : List B) (a n i : ℕ) → n ≤ i → old ++ each f (range_with_len (a + i) (n - i)) ≡ old
  each_end old a n i h = let none : n - i ≡ 0 = omega arith in rw (none, append-nil)

  -- one number more at the end of those that were added
  longer : (a n x : ℕ) → a + n ≡ x → each f (range_with_len a (n + 1)) ≡ each f (range_with_len a n) ++ f x
  longer a n x e =
      let same : List B → List B = λ l. l in
      sym (flat_map-map same f (range_with_len a (n + 1))) ∙ ap (flat_map same) (map-range_with_len_more f a n x e)
      ∙ flat_map-append same (map f (range_with_len a n)) (f x ∷ [])
      ∙ ap (λ (l : List B). l ++ (f x ++ [])) (flat_map-map same f (range_with_len a n)) ∙ simp append-nil

  pub each_more : (old mid new : List B) (a n x : ℕ) → mid ≡ old ++ each f (range_with_len a n) → new ≡ mid ++ f x → a + n ≡ x
      → new ≡ old ++ each f (range_with_len a (n + 1))
  each_more old mid new a n x so more e =
      more ∙ ap (λ (t : List B). t ++ f x) so ∙ append_assoc old (each f (range_with_len a n)) (f x)
      ∙ ap (λ (t : List B). old ++ t) (sym (longer a n x e))

-- numbers in a line are what each adds
pub numbers_each : (ns : List ℕ) → numbers_text ns ≡ each spaced ns
numbers_each [] = refl
numbers_each (n ∷ ns) = rw (append_assoc, numbers_each ns) refl

-- added as numbers print
pub numbers_printed : (old new ns : List ℕ) → AddsPrinted (λ n. Some (decimal n)) ns old new → new ≡ old ++ numbers_text ns
numbers_printed old new ns adds = adds (λ _. refl) ∙ ap (λ (t : List ℕ). old ++ t) (sym (numbers_each ns))

-- added as items print that show a number each
pub items_printed : {A : Type 0} (number : A → ℕ) (old new : List ℕ) (xs : List A) → AddsPrinted (λ x. Some (decimal (number x))) xs old new
    → new ≡ old ++ numbers_text (map number xs)
items_printed number old new xs adds =
    adds (λ _. refl) ∙ ap (λ (t : List ℕ). old ++ t) (sym (numbers_each (map number xs) ∙ flat_map-map spaced number xs))
