-- The chain: which bytes open, the walk along a state's records, and the cells.
--   record_at            a record of five numbers
--   chain_opening        what opening bytes answers
--   Trail, trail, walk   the records that a walk reads, and how it ends
--   Rising, WalksRise    each record read is above the one before
--   given, chain_entry   the cell that a walk gives, and the answer for a state and an input
use Rattle.std.specs.Prelude.{ℕ, zero, suc, ◌+◌, ◌-◌, ◌*◌, ◌<◌, ◌≤◌, Bool, cond, not, ◌&&◌, List, length, Some, None, Ok, Err, Option, Result, ◌==◌, nat_le, nat_lt}
use Rattle.machine.specs.Meaning.{Meaning}
use Rattle.machine.specs.declared.Cell.{Cell}
use Rattle.machine.specs.declared.faults.Cause.TheVariants as cause
use Rattle.machine.specs.declared.faults.StoredFault.{StoredFault}
use Rattle.machine.specs.declared.outputs.Command.{Command}
use Rattle.std.specs.Result.{result_and}
use Rattle.forms.specs.declared.chains.Record.{Record}
use Rattle.forms.specs.declared.openings.OpenRefusal.{OpenRefusal}
use Rattle.forms.specs.declared.openings.OpenRefusal.TheVariants as refusal
use Rattle.forms.specs.Bytes.{number, states, inputs, start, count}
use Rattle.forms.specs.Entries.{cell, command, fault, bounds_test}
use Rattle.forms.specs.Openings.{size_test}

-- the place of record r's first number: four numbers and the heads come before the records, which count from 1
abbrev pub record_place : List ℕ → ℕ → ℕ
record_place bs r = 4 + states bs + 5 * (r - 1)

abbrev pub record_at : List ℕ → ℕ → Record
record_at bs r = record {
  from = number bs (record_place bs r);
  to = number bs (record_place bs r + 1);
  next = number bs (record_place bs r + 2);
  output = number bs (record_place bs r + 3);
  link = number bs (record_place bs r + 4);
}

-- A walk reads records, and ends at a 0 or at a broken link: one that is above the count or not above its own record.
pub data Trail : Type 0 where
  Read : ℕ → Trail → Trail
  Ended : Trail
  Broken : Trail

-- whether the link r of record p is followed, where there are m records: only upward, so that a walk ends
abbrev pub follows : ℕ → ℕ → ℕ → Bool
follows p r m = nat_lt p r && nat_le r m

-- how a walk ends at link r
abbrev pub ending : ℕ → Trail
ending r = cond (r == 0) Ended Broken

-- the walk from link r, which record p holds, or a head where p is 0; `more` bounds the records still to be read
abbrev pub trail : ℕ → List ℕ → ℕ → ℕ → Trail
trail zero bs p r = ending r
trail (suc more) bs p r = cond (follows p r (count bs)) (Read r (trail more bs r (record_at bs r).link)) (ending r)

-- the walk of state s, from its head
abbrev pub walk : List ℕ → ℕ → Trail
walk bs s = trail (count bs) bs 0 (number bs (4 + s))

-- each record read after p is above the one before and at most m
abbrev pub Rising : ℕ → ℕ → Trail → Type 0
Rising m p (Read r rest) = (p < r) × (r ≤ m) × Rising m r rest
Rising m p Ended = Unit {0}
Rising m p Broken = Unit {0}

-- every walk of every state rises
abbrev pub WalksRise : Type 0
WalksRise = (bs : List ℕ) (s : ℕ) → Rising (count bs) 0 (walk bs s)

-- whether a record serves input i
abbrev pub covers : Record → ℕ → Bool
covers c i = nat_le c.from i && nat_le i c.to

-- the cell that record r gives: its next state must be one of n
abbrev pub record_cell : ℕ → ℕ → ℕ → ℕ → Record → Result (Cell Command) StoredFault
record_cell n s i r c = cond (nat_le n c.next) (fault cause.Next s i r) (cell c.next (command c.output))

-- the same without a fault: the cell of a record that leads to a state
abbrev pub cell_from : List ℕ → Record → Option (Cell Command)
cell_from bs c = cond (nat_le (states bs) c.next) None (Some (record { next = c.next; output = command c.output }))

-- what a walk gives, after record p: the cell of the first record that serves the input
abbrev pub given : List ℕ → ℕ → ℕ → ℕ → Trail → Result (Cell Command) StoredFault
given bs s i p (Read r rest) = cond (covers (record_at bs r) i) (record_cell (states bs) s i r (record_at bs r)) (given bs s i r rest)
given bs s i p Ended = fault cause.Blank s i p
given bs s i p Broken = fault cause.Link s i p

abbrev pub chain_entry : List ℕ → ℕ → ℕ → Result (Cell Command) StoredFault
chain_entry bs s i = result_and (bounds_test (states bs) (inputs bs) s i) (given bs s i 0 (walk bs s))

abbrev pub chain_meaning : List ℕ → Meaning Command StoredFault
chain_meaning bs = record { states = states bs; inputs = inputs bs; start = start bs; entry = chain_entry bs }

-- what opening bytes answers, a chain by what it means
abbrev pub chain_opening : List ℕ → Result (Meaning Command StoredFault) OpenRefusal
chain_opening bs =
    cond (nat_lt (length bs) 8) (Err refusal.Front)
    (result_and (size_test (states bs) (inputs bs) (start bs))
    (cond (nat_lt 4096 (count bs)) (Err refusal.Records)
    (cond (not (length bs == 2 * (4 + states bs + 5 * count bs))) (Err refusal.Length)
    (Ok (chain_meaning bs)))))
