use Rattle.std.proofs.Common.{◌≡◌, ◌++◌, map, take, string_bytes}
use Rattle.listings.specs.Lists.{lists_in}
use Rattle.reductions.specs.Aparts.{apart_of}
use Rattle.texts.specs.Each.{each}
use Rattle.views.specs.Cards.{telling_text}
use Rattle.views.proofs.cards.push_tellings.Given as goal

-- what was added so far
abbrev pub invariant-loop-apart : goal.invariant-loop-apart
invariant-loop-apart l =
    string_bytes l.text
    ≡ string_bytes l.initial.text
    ++ each (telling_text (lists_in l.reduction)) (map apart_of (take l.apart-index l.apart-items))
