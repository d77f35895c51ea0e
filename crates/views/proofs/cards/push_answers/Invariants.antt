use Rattle.std.proofs.Common.{◌≡◌, ◌<◌, ◌++◌, drop, string_bytes}
use Rattle.listings.specs.Lists.{lists_in}
use Rattle.texts.specs.Numbers.{numbers_text}
use Rattle.views.specs.Cards.{shows, ends}
use Rattle.views.proofs.cards.push_answers.Given as goal

-- what is left to show makes the whole, and leads to the same end
abbrev pub invariant-loop-input : goal.invariant-loop-input
invariant-loop-input l =
    let lists = lists_in l.reduction in
    (string_bytes l.text ++ numbers_text (shows lists l.at (drop l.input-index l.word))
    ≡ string_bytes l.initial.text ++ numbers_text (shows lists l.mode l.word))
    × (ends lists l.at (drop l.input-index l.word) ≡ ends lists l.mode l.word)
    × (l.at < 65536)
