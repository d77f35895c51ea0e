-- A machine of six states and two inputs, as a chain's bytes, and its sheet, one round after the other.
--   T6_bytes, T6                   the chain's bytes, and what they mean
--   after_round                    a stage and a round: the stage that follows from the reply
--   opened, once, twice, thrice,   the sheet as it is opened, and after each of four rounds
--   settled
use Rattle.std.specs.Prelude.{ℕ, false, List, [], ◌∷◌, ◌++◌}
use Rattle.forms.specs.Chains.{chain_meaning}
use Rattle.machine.specs.Meaning.{Meaning}
use Rattle.machine.specs.contracts.outputs.CommandOutput.TheImpl as commands
use Rattle.machine.specs.declared.faults.StoredFault.{StoredFault}
use Rattle.machine.specs.declared.outputs.Command.{Command}
use Rattle.sheet.specs.Replies.{round_reply}
use Rattle.sheet.specs.Stage.{Stage, stage_at, stage_after}
use Rattle.writing.specs.Bytes.{bytes_of}

-- six states, two inputs, the start 0 and twelve records; then the first record of each state
abbrev front : List ℕ
front = 6 ∷ 2 ∷ 0 ∷ 12 ∷ 1 ∷ 3 ∷ 5 ∷ 7 ∷ 9 ∷ 11 ∷ []

-- a line for each state, with a record for input 0 and one for input 1: from, to, next, output, link
abbrev records : List ℕ
records =
    0 ∷ 0 ∷ 4 ∷ 0 ∷ 2 ∷ 1 ∷ 1 ∷ 5 ∷ 0 ∷ 0
    ∷ 0 ∷ 0 ∷ 3 ∷ 0 ∷ 4 ∷ 1 ∷ 1 ∷ 2 ∷ 0 ∷ 0
    ∷ 0 ∷ 0 ∷ 0 ∷ 1 ∷ 6 ∷ 1 ∷ 1 ∷ 1 ∷ 0 ∷ 0
    ∷ 0 ∷ 0 ∷ 1 ∷ 0 ∷ 8 ∷ 1 ∷ 1 ∷ 5 ∷ 0 ∷ 0
    ∷ 0 ∷ 0 ∷ 0 ∷ 0 ∷ 10 ∷ 1 ∷ 1 ∷ 2 ∷ 0 ∷ 0
    ∷ 0 ∷ 0 ∷ 2 ∷ 1 ∷ 12 ∷ 1 ∷ 1 ∷ 0 ∷ 0 ∷ 0
    ∷ []

abbrev pub T6_bytes : List ℕ
T6_bytes = bytes_of (front ++ records)

abbrev pub T6 : Meaning Command StoredFault
T6 = chain_meaning T6_bytes

-- the stage after a round, by the reply to it
abbrev pub after_round : Stage → Stage
after_round t = stage_after (round_reply t) t

-- T6 before any round, with commands compared as the code compares them
abbrev pub opened : Stage
opened = stage_at (commands.ghosts).key T6 0 false

-- after rounds 1, 2, 3 and 4
abbrev pub once : Stage
once = after_round opened

abbrev pub twice : Stage
twice = after_round once

abbrev pub thrice : Stage
thrice = after_round twice

abbrev pub settled : Stage
settled = after_round thrice
