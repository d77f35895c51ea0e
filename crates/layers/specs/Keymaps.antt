-- A machine under a key map.
use Rattle.std.specs.Prelude.{ℕ, Bool, not, ◌&&◌, List, length, Result, ◌==◌, nat_le, slice_index}
use Rattle.machine.specs.Meaning.{Meaning}
use Rattle.machine.specs.declared.Cell.{Cell}
use Rattle.machine.specs.declared.Machine as machines
use Rattle.layers.specs.declared.Keymap.{Keymap}
use Rattle.layers.specs.declared.faults.KeymapFault.{KeymapFault}
use Rattle.layers.specs.declared.faults.KeymapFault.TheVariants as side
use Rattle.layers.specs.Faults.{in_part}
use Rattle.layers.specs.Layers.{layer, part_misfit}

-- the keys that a key map holds
abbrev pub kept : {P : Type 0} → Keymap P → List ℕ
kept m = m.keys.items

module _ {O F : Type 0} where
  -- the part is no misfit, and there are 1 to 32 keys
  abbrev pub keymap_fits : Meaning O F → List ℕ → Bool
  keymap_fits a ks = not (a.states == 0) && (not (length ks == 0) && nat_le (length ks) 32)

  -- a key asks for the input that is listed for it
  abbrev pub keymap_cell : Meaning O F → List ℕ → ℕ → ℕ → Result (Cell O) (KeymapFault F)
  keymap_cell a ks s i = in_part (a.entry s (slice_index ks i))

  -- the part with the keys as its inputs
  abbrev pub keymap_whole : Meaning O F → List ℕ → Meaning O (KeymapFault F)
  keymap_whole a ks = record { states = a.states; inputs = length ks; start = a.start; entry = keymap_cell a ks }

  -- what a machine under a list of keys means
  abbrev pub keymap : Meaning O F → List ℕ → Meaning O (KeymapFault F)
  keymap a ks = layer side.Own (keymap_fits a ks) (keymap_whole a ks) (part_misfit a)

-- the same of the part and the keys that a key map holds
abbrev pub keymap_of : {P O F : Type 0} → machines.Ghosts P O F → Keymap P → Meaning O (KeymapFault F)
keymap_of p m = keymap (p.means m.part) (kept m)
