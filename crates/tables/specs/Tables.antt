-- A grid that is a table.
use Rattle.std.specs.Prelude.{◌≡◌, ℕ, ◌<◌, List, ℤ}
use Rattle.machine.specs.Meaning.{Meaning, Sound}
use Rattle.machine.specs.Theory.{mealy_of}
use Rattle.machine.specs.declared.faults.StoredFault.{StoredFault}
use Rattle.mealy.specs.Mealy.{Mealy, Closed}
use Rattle.sheet.specs.Tables.{table_mealy}

-- two machines of the theory have the same counts, and at each state and input the same next state and key
pub record Same (a b : Mealy) : Type 0 where
  pub states : a.states ≡ b.states
  pub inputs : a.inputs ≡ b.inputs
  pub next : (s i : ℕ) → s < b.states → i < b.inputs → a.next s i ≡ b.next s i
  pub key : (s i : ℕ) → s < b.states → i < b.inputs → a.key s i ≡ b.key s i

-- where the two lists are a complete machine of c states and k inputs, the grid is sound, and is that machine
abbrev pub IsTable : {O : Type 0} → (O → List ℤ) → ℕ → ℕ → List ℕ → List O → Meaning O StoredFault → Type 0
IsTable key c k next outs g =
    Closed (table_mealy key c k next outs) → Sound g × Same (mealy_of key g) (table_mealy key c k next outs)
