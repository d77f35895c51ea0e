-- The list of what tells classes apart, made one by one, and what stands above a class.
use Rattle.std.proofs.Common.{◌≡◌, ℕ, suc, ◌+◌, ◌-◌, ◌<◌, ◌≤◌, List, [], ◌∷◌, ◌++◌, map, length, get_or, take, drop, refl, ap, ◌∙◌, append_assoc, append-nil, arith}
use Rattle.std.specs.List.{range_with_len}
use Rattle.std.proofs.lemmas.List.{map-append, take_rest, get_or-drop, length-drop}

module _ {A B : Type 0} (g : A → B) (f : ℕ → B) where
  -- one more
  pub aparts_step : (old : List A) (x : A) (i n : ℕ) → i < n → g x ≡ f i
      → map g (old ++ (x ∷ [])) ++ map f (range_with_len (i + 1) (n - (i + 1))) ≡ map g old ++ map f (range_with_len i (n - i))
  aparts_step old x i n h e =
      let left : n - i ≡ suc (n - (i + 1)) = omega arith in
      rw (left, map-append) (rw (append_assoc, e) refl)

  -- none left
  pub aparts_done : (old : List A) (i n : ℕ) → n ≤ i → map g old ++ map f (range_with_len i (n - i)) ≡ map g old
  aparts_done old i n h = let none : n - i ≡ 0 = omega arith in rw (none, append-nil)

-- What stands above place i of a list.
module _ (xs : List ℕ) (i : ℕ) where
  abbrev pub above : List ℕ
  above = take (length xs - (i + 1)) (drop (i + 1) xs)

  pub above_length : length above ≡ length xs - (i + 1)
  above_length = ap length (take_rest xs (i + 1)) ∙ length-drop (i + 1) xs

  pub above_at : (k : ℕ) → get_or above k 0 ≡ get_or xs (i + 1 + k) 0
  above_at k = ap (λ (v : List ℕ). get_or v k 0) (take_rest xs (i + 1)) ∙ get_or-drop (i + 1) xs k 0
