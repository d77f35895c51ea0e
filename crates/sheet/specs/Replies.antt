-- What each call answers at a stage, and what it leaves in its buffer.
--   when_sound, when_states     what every call on a sheet, or on two states, refuses first
--   round_reply, settle_reply   a round, and rounds until one settles
--   parted_in, pair_reply       the round in which two states part, and how they stand
--   map_reply, map_after        the block numbers
--   word_reply, word_after      the word of two states
use Rattle.std.specs.Prelude.{ℕ, suc, ◌+◌, ◌-◌, Bool, cond, ◌&&◌, List, ◌++◌, length, drop, Some, None, Ok, Err, Option, Result, ◌==◌, nat_le, nat_lt}
use Rattle.mealy.specs.Below.{lowest}
use Rattle.mealy.specs.FirstWord.{word_of}
use Rattle.mealy.specs.Mealy.{Mealy}
use Rattle.mealy.specs.Partitions.{blocks, block_count, parted}
use Rattle.sheet.specs.declared.answers.Pair.{Pair}
use Rattle.sheet.specs.declared.answers.Pair.TheVariants as pairs
use Rattle.sheet.specs.declared.answers.Refusal.{Refusal}
use Rattle.sheet.specs.declared.answers.Refusal.TheVariants as refusal
use Rattle.sheet.specs.declared.answers.Round.{Round}
use Rattle.sheet.specs.declared.answers.Round.TheVariants as round
use Rattle.sheet.specs.declared.answers.Settling.{Settling}
use Rattle.sheet.specs.Stage.{Stage, if_ok}

-- an unsound machine is refused before anything else
abbrev pub when_sound : {A : Type 0} → Stage → Result A Refusal → Result A Refusal
when_sound t x = cond t.sound x (Err refusal.Unsound)

-- a settled sheet takes no round
abbrev pub when_open : {A : Type 0} → Stage → Result A Refusal → Result A Refusal
when_open t x = cond t.settled (Err refusal.AlreadySettled) x

-- both have to be states
abbrev pub when_states : {A : Type 0} → Stage → ℕ → ℕ → Result A Refusal → Result A Refusal
when_states t s u x = cond (nat_lt s t.machine.states && nat_lt u t.machine.states) x (Err refusal.NoSuchState)

-- round j + 1 makes no more blocks than P j has
abbrev pub settles_in : Mealy → ℕ → Bool
settles_in m j = block_count m (suc j) == block_count m j

abbrev pub round_reply : Stage → Result Round Refusal
round_reply t =
    let now : ℕ = block_count t.machine t.rounds in
    let next : ℕ = block_count t.machine (suc t.rounds) in
    when_sound t (when_open t (cond (settles_in t.machine t.rounds) (Ok (round.Settled now)) (Ok (round.Split next))))

-- how many rounds split before one settles
abbrev pub splits_in_all : Mealy → ℕ
splits_in_all m = lowest m.states (settles_in m)

abbrev pub settle_reply : Stage → Result Settling Refusal
settle_reply t =
    let last : ℕ = splits_in_all t.machine in
    when_sound t (when_open t (Ok (record { rounds = last - t.rounds + 1; count = block_count t.machine last })))

-- round j, where it is one of the first r
abbrev pub if_taken : ℕ → ℕ → Option ℕ
if_taken r j = cond (nat_le j r) (Some j) None

-- the round in which two states part, of those so far
abbrev pub parted_in : Stage → ℕ → ℕ → Option ℕ
parted_in t s u = if_taken t.rounds (parted t.machine t.rounds s u)

-- two states that part in round j, after r rounds that split
abbrev pub pair_at : ℕ → Bool → ℕ → Pair
pair_at r done j = cond (nat_le j r) (pairs.Apart j) (cond done pairs.Equivalent pairs.Together)

-- the same by the round in which they part, if they have
abbrev pub told : Option ℕ → Bool → Pair
told (Some j) done = pairs.Apart j
told None done = cond done pairs.Equivalent pairs.Together

abbrev pub pair_reply : Stage → ℕ → ℕ → Result Pair Refusal
pair_reply t s u =
    when_sound t (when_states t s u (Ok (pair_at t.rounds t.settled (parted t.machine t.rounds s u))))

-- n places are needed
abbrev pub when_room : {A : Type 0} → ℕ → ℕ → Result A Refusal → Result A Refusal
when_room size n x = cond (nat_lt size n) (Err (refusal.Short n)) x

abbrev pub map_reply : Stage → ℕ → Result (Unit {0}) Refusal
map_reply t size = when_sound t (when_room size t.machine.states (Ok tt))

-- the numbers in front, and what stood behind them
abbrev pub map_after : Stage → List ℕ → List ℕ
map_after t before =
    if_ok (map_reply t (length before)) (blocks t.machine t.rounds ++ drop t.machine.states before) before

-- the word of two states that part in round j, after r rounds that split
abbrev pub word_at : ℕ → ℕ → ℕ → Result ℕ Refusal
word_at r size j = cond (nat_le j r) (when_room size j (Ok j)) (Err refusal.NotApart)

abbrev pub word_reply : Stage → ℕ → ℕ → ℕ → Result ℕ Refusal
word_reply t s u size =
    when_sound t (when_states t s u (word_at t.rounds size (parted t.machine t.rounds s u)))

-- the word in front, and what stood behind it
abbrev pub word_after : Stage → ℕ → ℕ → List ℕ → List ℕ
word_after t s u before =
    let word : List ℕ = word_of t.machine t.rounds s u in
    if_ok (word_reply t s u (length before)) (word ++ drop (length word) before) before
