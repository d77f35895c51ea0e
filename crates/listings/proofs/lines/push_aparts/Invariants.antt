use Rattle.std.proofs.Common.{◌≡◌, ◌++◌, map, take, string_bytes}
use Rattle.reductions.specs.Aparts.{apart_of}
use Rattle.listings.specs.Lines.{aparts_text}
use Rattle.listings.proofs.lines.push_aparts.Given as goal

-- what was added so far
abbrev pub invariant-loop-apart : goal.invariant-loop-apart
invariant-loop-apart l =
    string_bytes l.text ≡ string_bytes l.initial.text ++ aparts_text (map apart_of (take l.apart-index l.aparts))
