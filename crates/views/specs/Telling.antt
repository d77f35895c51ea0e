-- What the card is for: on their keys, two modes show different outputs.
use Rattle.std.specs.Prelude.{ℕ, ◌<◌, ◌≢◌}
use Rattle.machine.specs.Meaning.{Meaning, Sound, Closed}
use Rattle.machine.specs.declared.faults.StoredFault.{StoredFault}
use Rattle.machine.specs.declared.outputs.Command.{Command}
use Rattle.listings.specs.Lists.{command_key, lists_of}
use Rattle.reductions.specs.Aparts.{Parting, apart_at}
use Rattle.reductions.specs.Reductions.{leaders_of, settled_stage}
use Rattle.sheet.specs.Stage.{Stage}
use Rattle.views.specs.Cards.{shows}

-- the card's line for modes a and b
abbrev pub line_for : Meaning Command StoredFault → ℕ → ℕ → Parting
line_for m a b =
    let t : Stage = settled_stage command_key m in
    apart_at t.machine t.rounds (leaders_of t) a b

-- of every sound machine, each two modes show different outputs on the keys of their line
abbrev pub CardTellsModes : Type 0
CardTellsModes =
    (m : Meaning Command StoredFault) → Sound m → Closed m → (a b : ℕ) → a < b → b < (lists_of m).table.classes
    → shows (lists_of m) a (line_for m a b).word ≢ shows (lists_of m) b (line_for m a b).word
