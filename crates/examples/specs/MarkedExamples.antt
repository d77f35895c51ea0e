-- The worked examples in one list, over the definitions that the contracts of the code cite.
use Rattle.std.specs.Prelude.{◌≡◌, ℕ, ◌/◌, ◌%◌, List, [], ◌∷◌, map, ℤ, pos, neg_ℤ, Ok, Err, Result}
use Rattle.forms.specs.Chains.{chain_opening}
use Rattle.forms.specs.Entries.{cell, command}
use Rattle.forms.specs.Rings.{ring_meaning, ring_opening}
use Rattle.layers.specs.Trains.{train}
use Rattle.machine.specs.Wheels.{hundredths}
use Rattle.machine.specs.contracts.outputs.WheelMoveOutput.TheImpl as moves
use Rattle.machine.specs.declared.Cell.{Cell}
use Rattle.machine.specs.declared.faults.StoredFault.{StoredFault}
use Rattle.machine.specs.declared.outputs.Command.{Command}
use Rattle.sheet.specs.Refusals.{refusal_number}
use Rattle.sheet.specs.Replies.{round_reply, map_after, word_reply, word_after}
use Rattle.sheet.specs.declared.answers.Refusal.{Refusal}
use Rattle.sheet.specs.declared.answers.Round.TheVariants as round
use Rattle.std.specs.List.{range_with_len}
use Rattle.examples.specs.SixStates.{T6_bytes, T6, opened, once, twice, thrice, settled}

-- a call is refused, by this number
abbrev pub RefusedBy : {A : Type 0} → Result A Refusal → ℕ → Type 0
RefusedBy r n = (e : Refusal) × (r ≡ Err e) × (refusal_number e ≡ n)

-- the cells of T6 from state 0 on, for inputs 0 and 1
abbrev cells : List (Result (Cell Command) StoredFault)
cells = map (λ x. T6.entry (x / 2) (x % 2)) (range_with_len 0 12)

-- a next state and a command
abbrev goes : {F : Type 0} → ℕ → ℕ → Result (Cell Command) F
goes next number = cell next (command number)

-- a caller's buffer of six places
abbrev nines : List ℕ
nines = 9 ∷ 9 ∷ 9 ∷ 9 ∷ 9 ∷ 9 ∷ []

-- an offset below zero
abbrev minus : ℕ → ℤ
minus n = neg_ℤ (pos n)

-- the inputs of a ring
abbrev forward : ℕ
forward = 0

abbrev back : ℕ
back = 1

abbrev stay : ℕ
stay = 2

pub record MarkedExamples : Type 0 where
  -- the bytes of T6 open, as a machine of six states and two inputs that starts at 0
  pub opens : chain_opening T6_bytes ≡ Ok T6
  pub states : T6.states ≡ 6
  pub inputs : T6.inputs ≡ 2
  pub start : T6.start ≡ 0
  -- its cells are those of the example, state by state
  pub cells_read : cells ≡
      goes 4 0 ∷ goes 5 0
      ∷ goes 3 0 ∷ goes 2 0
      ∷ goes 0 1 ∷ goes 1 0
      ∷ goes 1 0 ∷ goes 5 0
      ∷ goes 0 0 ∷ goes 2 0
      ∷ goes 2 1 ∷ goes 0 0
      ∷ []
  -- before any round all states are in one block
  pub map_opened : map_after opened nines ≡ 0 ∷ 0 ∷ 0 ∷ 0 ∷ 0 ∷ 0 ∷ []
  -- the map after round 1, after round 2 and after round 3
  pub map_once : map_after once nines ≡ 0 ∷ 0 ∷ 1 ∷ 0 ∷ 0 ∷ 1 ∷ []
  pub map_twice : map_after twice nines ≡ 0 ∷ 0 ∷ 1 ∷ 0 ∷ 0 ∷ 2 ∷ []
  pub map_thrice : map_after thrice nines ≡ 0 ∷ 1 ∷ 2 ∷ 0 ∷ 1 ∷ 3 ∷ []
  -- round 4 settles with 4 blocks, and round 5 is refused by 4
  pub round_4 : round_reply thrice ≡ Ok (round.Settled 4)
  pub round_5 : RefusedBy (round_reply settled) 4
  -- settled, the word of 0 and 1 is 1 0 0, and that of 2 and 5 is 0 0; what stands behind them stays
  pub length_0_1 : word_reply settled 0 1 6 ≡ Ok 3
  pub word_0_1 : word_after settled 0 1 nines ≡ 1 ∷ 0 ∷ 0 ∷ 9 ∷ 9 ∷ 9 ∷ []
  pub length_2_5 : word_reply settled 2 5 6 ≡ Ok 2
  pub word_2_5 : word_after settled 2 5 nines ≡ 0 ∷ 0 ∷ 9 ∷ 9 ∷ 9 ∷ 9 ∷ []
  -- no word tells 0 from 3, or 4 from itself: refused by 6
  pub word_0_3 : RefusedBy (word_reply settled 0 3 6) 6
  pub word_4_4 : RefusedBy (word_reply settled 4 4 6) 6
  -- offsets of a wheel and their keys, to both sides, and the key of a move of all three wheels
  pub offsets_up : map hundredths (pos 4 ∷ pos 5 ∷ pos 14 ∷ pos 15 ∷ pos 25 ∷ []) ≡ pos 0 ∷ pos 1 ∷ pos 1 ∷ pos 2 ∷ pos 3 ∷ []
  pub offsets_down : map hundredths (minus 5 ∷ minus 14 ∷ minus 15 ∷ []) ≡ minus 1 ∷ minus 1 ∷ minus 2 ∷ []
  pub move_key : (moves.ghosts).key (record { lift = pos 4; gamma = pos 15; gain = minus 15 }) ≡ pos 0 ∷ pos 2 ∷ minus 2 ∷ []
  -- a ring of 3 goes forward from its last state to its first, back from its first to its last, and stays
  pub ring_opens : ring_opening 3 ≡ Ok (ring_meaning 3)
  pub ring_forward : (ring_meaning 3).entry 2 forward ≡ goes 0 1
  pub ring_back : (ring_meaning 3).entry 0 back ≡ goes 2 2
  pub ring_stay : (ring_meaning 3).entry 1 stay ≡ goes 1 0
  -- a ring of 3 feeds a ring of 2: forward from the first pair of states, and from the last
  pub train_first : (train (ring_meaning 3) (ring_meaning 2)).entry 0 forward ≡ goes 3 0
  pub train_last : (train (ring_meaning 3) (ring_meaning 2)).entry 5 forward ≡ goes 0 0
