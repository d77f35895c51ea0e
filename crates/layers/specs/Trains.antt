-- A machine that feeds another.
use Rattle.std.specs.Prelude.{ℕ, ◌+◌, ◌-◌, ◌*◌, ◌/◌, ◌%◌, Bool, cond, not, ◌&&◌, Ok, Err, Result, ◌==◌, nat_le, nat_lt}
use Rattle.machine.specs.Meaning.{Meaning}
use Rattle.machine.specs.declared.Cell.{Cell}
use Rattle.machine.specs.declared.Machine as machines
use Rattle.machine.specs.declared.outputs.Command.{Command}
use Rattle.layers.specs.declared.Train.{Train}
use Rattle.layers.specs.declared.faults.PairFault.{PairFault}
use Rattle.layers.specs.declared.faults.PairFault.TheVariants as pair
use Rattle.layers.specs.Faults.{in_second}
use Rattle.layers.specs.Layers.{layer, pair_misfit}

-- The input as which a command enters a part with k inputs: one that is too large is the highest. The only place that
-- says so.
abbrev pub fed : Command → ℕ → ℕ
fed c k = cond (nat_lt c.number k) c.number (k - 1)

-- the upper part's cell among n upper states, with the lower part's next state in front
abbrev pub joined : {O F : Type 0} → ℕ → ℕ → Result (Cell O) F → Result (Cell O) F
joined n next (Ok c) = Ok (record { next = next * n + c.next; output = c.output })
joined n next (Err f) = Err f

module _ {O F G : Type 0} where
  -- the lower part's answer drives the upper part from state t
  abbrev pub driven : Meaning O G → ℕ → Result (Cell Command) F → Result (Cell O) (PairFault F G)
  driven b t (Ok c) = joined b.states c.next (in_second (b.entry t (fed c.output b.inputs)))
  driven b t (Err f) = Err (pair.First f)

  -- no part is a misfit, and the pairs of states are not too many
  abbrev pub train_fits : Meaning Command F → Meaning O G → Bool
  train_fits a b = not (a.states == 0) && (not (b.states == 0) && nat_le (a.states * b.states) 128)

  -- state s of the lower part and t of the upper is s * (states of the upper) + t
  abbrev pub train_cell : Meaning Command F → Meaning O G → ℕ → ℕ → Result (Cell O) (PairFault F G)
  train_cell a b s i = driven b (s % b.states) (a.entry (s / b.states) i)

  -- the two together: every pair of states, with the pair of the starts
  abbrev pub train_whole : Meaning Command F → Meaning O G → Meaning O (PairFault F G)
  train_whole a b = record {
    states = a.states * b.states;
    inputs = a.inputs;
    start = a.start * b.states + b.start;
    entry = train_cell a b;
  }

  -- what a machine that feeds another means
  abbrev pub train : Meaning Command F → Meaning O G → Meaning O (PairFault F G)
  train a b = layer pair.Own (train_fits a b) (train_whole a b) (pair_misfit a b)

-- the same of the parts that a layer holds
abbrev pub train_of : {L U O F G : Type 0} → machines.Ghosts L Command F → machines.Ghosts U O G → Train L U → Meaning O (PairFault F G)
train_of l u m = train (l.means m.lower) (u.means m.upper)
