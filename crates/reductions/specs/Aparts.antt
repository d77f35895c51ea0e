-- What tells each two classes apart.
--   Parting, apart_of         two classes and their word, and the same of what is kept
--   apart_at                  two of a list of states
--   aparts_above, aparts_of   one with those above it; each two, rising
--   Told                      a sheet has a word for each two
use Rattle.std.specs.Prelude.{◌≡◌, ℕ, ◌+◌, ◌-◌, ◌<◌, true, List, map, length, is_ok, vec_items, slice_index}
use Rattle.std.specs.List.{range_with_len}
use Rattle.mealy.specs.FirstWord.{word_of}
use Rattle.mealy.specs.Mealy.{Mealy}
use Rattle.sheet.specs.Replies.{word_reply}
use Rattle.sheet.specs.Stage.{Stage}
use Rattle.texts.specs.Each.{each}
use Rattle.reductions.specs.declared.Apart.{Apart}

-- two classes, and a word that tells them apart
pub record Parting : Type 0 where
  pub first : ℕ
  pub second : ℕ
  pub word : List ℕ

-- what is kept of two classes
abbrev pub apart_of : Apart → Parting
apart_of a = record { first = a.first; second = a.second; word = vec_items a.word }

-- classes a and b, by their lowest states, which part by round r
abbrev pub apart_at : Mealy → ℕ → List ℕ → ℕ → ℕ → Parting
apart_at m r leaders a b = record { first = a; second = b; word = word_of m r (slice_index leaders a) (slice_index leaders b) }

-- class a and each class above it
abbrev pub aparts_above : Mealy → ℕ → List ℕ → ℕ → List Parting
aparts_above m r leaders a = map (apart_at m r leaders a) (range_with_len (a + 1) (length leaders - (a + 1)))

-- each two classes, rising
abbrev pub aparts_of : Mealy → ℕ → List ℕ → List Parting
aparts_of m r leaders = each (aparts_above m r leaders) (range_with_len 0 (length leaders))

-- a sheet tells each two of these states apart
abbrev pub Told : Stage → List ℕ → Type 0
Told t leaders =
    (a b : ℕ) → a < b → b < length leaders → is_ok (word_reply t (slice_index leaders a) (slice_index leaders b) 128) ≡ true
