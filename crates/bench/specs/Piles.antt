-- The piles that are measured: what each means by its parts, and what its parts are.
--   beside_of, train_of, keymap_of, deep_of   what a pile of these parts means
--   backward_keys, turns                      the keys, and the states of the ring
--   singled, fed, turned, three_deep          the machines
use Rattle.std.specs.Prelude.{ℕ, ◌-◌, ◌/◌, cond, List, map, nat_lt}
use Rattle.std.specs.List.{range_with_len}
use Rattle.forms.specs.Forms.{ring_of, grid_of}
use Rattle.forms.specs.Rings.{ring_meaning}
use Rattle.forms.specs.declared.Grid.{Grid}
use Rattle.forms.specs.declared.Ring.{Ring}
use Rattle.layers.specs.Besides.{beside}
use Rattle.layers.specs.Keymaps.{keymap, kept}
use Rattle.layers.specs.Trains.{train}
use Rattle.layers.specs.declared.Beside.{Beside}
use Rattle.layers.specs.declared.Keymap.{Keymap}
use Rattle.layers.specs.declared.Train.{Train}
use Rattle.layers.specs.declared.faults.KeymapFault.{KeymapFault}
use Rattle.layers.specs.declared.faults.PairFault.{PairFault}
use Rattle.machine.specs.Meaning.{Meaning}
use Rattle.machine.specs.declared.faults.StoredFault.{StoredFault}
use Rattle.machine.specs.declared.outputs.Command.{Command}
use Rattle.bench.specs.declared.machines.Case.{Case}
use Rattle.bench.specs.declared.machines.Case.TheVariants as case
use Rattle.bench.specs.Tables.{measured}

-- what each pile means
abbrev pub beside_of : Beside (Grid Command) (Grid Command) → Meaning Command (PairFault StoredFault StoredFault)
beside_of m = beside (grid_of m.first) (grid_of m.second)

abbrev pub train_of : Train (Grid Command) Ring → Meaning Command (PairFault StoredFault StoredFault)
train_of m = train (grid_of m.lower) (ring_of m.upper)

abbrev pub keymap_of : Keymap (Grid Command) → Meaning Command (KeymapFault StoredFault)
keymap_of m = keymap (grid_of m.part) (kept m)

abbrev pub deep_of : Keymap (Train (Beside (Grid Command) (Grid Command)) Ring) → Meaning Command (KeymapFault (PairFault (PairFault StoredFault StoredFault) StoredFault))
deep_of m = keymap (train (beside_of m.part.lower) (ring_of m.part.upper)) (kept m)

-- the inputs from the last to the first
abbrev pub backward_keys : ℕ → List ℕ
backward_keys k = map (λ i. k - 1 - i) (range_with_len 0 k)

-- the states of the ring under three layers: 2, or 1 where there are too few in all
abbrev pub turns : ℕ → ℕ
turns n = cond (nat_lt n 4) 1 2

-- a table beside a single state
abbrev pub singled : Case → ℕ → ℕ → Meaning Command (PairFault StoredFault StoredFault)
singled c n k = beside (measured c (n - 1) k) (measured case.Alike 1 k)

-- a table that feeds a ring of 2
abbrev pub fed : Case → ℕ → ℕ → Meaning Command (PairFault StoredFault StoredFault)
fed c n k = train (measured c (n / 2) k) (ring_meaning 2)

-- a table with its inputs backwards
abbrev pub turned : Case → ℕ → ℕ → Meaning Command (KeymapFault StoredFault)
turned c n k = keymap (measured c n k) (backward_keys k)

-- all three
abbrev pub three_deep : Case → ℕ → ℕ → Meaning Command (KeymapFault (PairFault (PairFault StoredFault StoredFault) StoredFault))
three_deep c n k = keymap (train (singled c (n / turns n) k) (ring_meaning (turns n))) (backward_keys k)
