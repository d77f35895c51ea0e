-- Two machines beside each other.
use Rattle.std.specs.Prelude.{ℕ, ◌+◌, ◌-◌, Bool, cond, not, ◌&&◌, Ok, Err, Result, ◌==◌, nat_le, nat_lt}
use Rattle.machine.specs.Meaning.{Meaning}
use Rattle.machine.specs.declared.Cell.{Cell}
use Rattle.machine.specs.declared.Machine as machines
use Rattle.layers.specs.declared.Beside.{Beside}
use Rattle.layers.specs.declared.faults.PairFault.{PairFault}
use Rattle.layers.specs.declared.faults.PairFault.TheVariants as pair
use Rattle.layers.specs.Faults.{in_first, in_second}
use Rattle.layers.specs.Layers.{layer, pair_misfit}

-- a cell whose next state stands n further on
abbrev pub shifted : {O F : Type 0} → ℕ → Result (Cell O) F → Result (Cell O) F
shifted n (Ok c) = Ok (record { next = n + c.next; output = c.output })
shifted n (Err f) = Err f

module _ {O F G : Type 0} where
  -- no part is a misfit, the inputs are as many, and the states are not too many
  abbrev pub beside_fits : Meaning O F → Meaning O G → Bool
  beside_fits a b = not (a.states == 0) && (not (b.states == 0) && (a.inputs == b.inputs && nat_le (a.states + b.states) 128))

  -- the states of the second part stand after those of the first, and so do its next states
  abbrev pub beside_cell : Meaning O F → Meaning O G → ℕ → ℕ → Result (Cell O) (PairFault F G)
  beside_cell a b s i = cond (nat_lt s a.states) (in_first (a.entry s i)) (shifted a.states (in_second (b.entry (s - a.states) i)))

  -- the two together: one after the other, with the first part's start
  abbrev pub beside_whole : Meaning O F → Meaning O G → Meaning O (PairFault F G)
  beside_whole a b = record { states = a.states + b.states; inputs = a.inputs; start = a.start; entry = beside_cell a b }

  -- what two machines beside each other mean
  abbrev pub beside : Meaning O F → Meaning O G → Meaning O (PairFault F G)
  beside a b = layer pair.Own (beside_fits a b) (beside_whole a b) (pair_misfit a b)

-- the same of the parts that a layer holds
abbrev pub beside_of : {P Q O F G : Type 0} → machines.Ghosts P O F → machines.Ghosts Q O G → Beside P Q → Meaning O (PairFault F G)
beside_of p q m = beside (p.means m.first) (q.means m.second)
