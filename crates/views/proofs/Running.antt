-- A word run on the lists, key by key.
use Rattle.std.proofs.Common.{◌≡◌, ℕ, ◌+◌, ◌*◌, ◌<◌, List, ◌∷◌, ◌++◌, length, get_or, drop, sym, ap, ◌∙◌, append_assoc, append-nil}
use lib.Seq.{drop-length}
use Rattle.std.proofs.lemmas.List.{drop_more}
use Rattle.listings.specs.Lists.{Lists}
use Rattle.texts.specs.Numbers.{spaced, numbers_text}
use Rattle.views.specs.Cards.{shows, ends}

module _ (l : Lists) (c : ℕ) (w : List ℕ) (i : ℕ) where
  abbrev place : ℕ
  place = c * l.inputs + get_or w i 0

  -- one key more
  pub shows_step : (old : List ℕ) (out next : ℕ) → i < length w → out ≡ get_or l.outputs place 0 → next ≡ get_or l.next place 0
      → (old ++ spaced out) ++ numbers_text (shows l next (drop (i + 1) w)) ≡ old ++ numbers_text (shows l c (drop i w))
  shows_step old out next h e f =
      append_assoc old (spaced out) (numbers_text (shows l next (drop (i + 1) w)))
      ∙ ap (λ (x : ℕ). old ++ (spaced x ++ numbers_text (shows l next (drop (i + 1) w)))) e
      ∙ ap (λ (x : ℕ). old ++ numbers_text (get_or l.outputs place 0 ∷ shows l x (drop (i + 1) w))) f
      ∙ ap (λ (x : List ℕ). old ++ numbers_text (shows l c x)) (sym (drop_more w i 0 h))

  pub ends_step : (next : ℕ) → i < length w → next ≡ get_or l.next place 0 → ends l next (drop (i + 1) w) ≡ ends l c (drop i w)
  ends_step next h f = ap (λ (x : ℕ). ends l x (drop (i + 1) w)) f ∙ ap (ends l c) (sym (drop_more w i 0 h))

  -- no key left
  pub shows_done : (old : List ℕ) → i ≡ length w → old ++ numbers_text (shows l c (drop i w)) ≡ old
  shows_done old h = rw (h, drop-length, append-nil)

  pub ends_done : i ≡ length w → ends l c (drop i w) ≡ c
  ends_done h = rw (h, drop-length)
