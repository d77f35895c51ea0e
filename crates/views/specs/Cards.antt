-- A card for a panel that was left in an unknown mode: a mode is a class of the reduced machine.
--   shows, ends              what a mode shows on a word, and the mode after it
--   mode_text                a mode with its states
--   run_text, telling_text   a mode on a word; the keys for two modes
--   card_text                all lines
use Rattle.std.specs.Prelude.{◌≡◌, ℕ, ◌+◌, ◌*◌, List, [], ◌∷◌, ◌++◌, codes, decimal, slice_index}
use Rattle.std.specs.List.{range_with_len}
use Rattle.listings.specs.Lists.{Lists}
use Rattle.reductions.specs.Aparts.{Parting}
use Rattle.texts.specs.Each.{each}
use Rattle.texts.specs.Numbers.{numbers_text}
use Rattle.views.specs.Members.{members_text}

-- the outputs that mode c meets on a word
abbrev pub shows : Lists → ℕ → List ℕ → List ℕ
shows l c [] = []
shows l c (i ∷ w) = slice_index l.outputs (c * l.inputs + i) ∷ shows l (slice_index l.next (c * l.inputs + i)) w

-- the mode after it
abbrev pub ends : Lists → ℕ → List ℕ → ℕ
ends l c [] = c
ends l c (i ∷ w) = ends l (slice_index l.next (c * l.inputs + i)) w

abbrev pub mode_text : List ℕ → ℕ → List ℕ
mode_text numbering c =
    codes "mode " ++ (decimal c ++ (codes " is state" ++ (members_text numbering c ++ codes "\n")))

abbrev pub modes_text : Lists → List ℕ
modes_text l = each (mode_text l.numbering) (range_with_len 0 l.table.classes)

abbrev pub run_text : Lists → ℕ → List ℕ → List ℕ
run_text l c w =
    codes "; " ++ (decimal c ++ (codes " shows" ++ (numbers_text (shows l c w) ++ (codes " and is then " ++ decimal (ends l c w)))))

abbrev pub telling_text : Lists → Parting → List ℕ
telling_text l p =
    codes "mode " ++ (decimal p.first ++ (codes " or " ++ (decimal p.second ++ (codes ": press" ++ (numbers_text p.word
    ++ (run_text l p.first p.word ++ (run_text l p.second p.word ++ codes "\n")))))))

abbrev pub tellings_text : Lists → List ℕ
tellings_text l = each (telling_text l) l.aparts

abbrev pub card_text : Lists → List ℕ
card_text l = modes_text l ++ tellings_text l

-- the outputs were added, and the mode after the word given
pub record Ran (l : Lists) (c : ℕ) (w : List ℕ) (before after : List ℕ) (last : ℕ) : Type 0 where
  pub added : after ≡ before ++ numbers_text (shows l c w)
  pub ended : last ≡ ends l c w
