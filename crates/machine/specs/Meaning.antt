-- What a machine means, and what every meaning has.
--   Meaning          the counts, the start, and a cell or a fault for each state and input
--   Fits, Misfit     the panel's limits are kept; nothing is there at all
--   Sizes            a meaning is one or the other
--   Inside, Closed   cells lie within the counts, and lead to states
--   Filled, Sound    a cell is there; all of them are
use Rattle.std.specs.Prelude.{◌≡◌, ℕ, ◌<◌, ◌≤◌, true, ◌⊎◌, is_ok, Ok, Result}
use Rattle.machine.specs.declared.Cell.{Cell}

-- a machine with outputs O and faults F, as its four questions are answered
pub record Meaning (O F : Type 0) : Type 0 where
  pub states : ℕ
  pub inputs : ℕ
  pub start : ℕ
  pub entry : ℕ → ℕ → Result (Cell O) F

module _ {O F : Type 0} where
  -- 1 to 128 states and 1 to 32 inputs, the limits of the panel, and the start is a state
  pub record Fits (m : Meaning O F) : Type 0 where
    pub some_states : 1 ≤ m.states
    pub few_states : m.states ≤ 128
    pub some_inputs : 1 ≤ m.inputs
    pub few_inputs : m.inputs ≤ 32
    pub starts : m.start < m.states

  -- parts that do not go together make a machine with nothing in it
  pub record Misfit (m : Meaning O F) : Type 0 where
    pub no_states : m.states ≡ 0
    pub no_inputs : m.inputs ≡ 0
    pub no_start : m.start ≡ 0

  abbrev pub Sizes : Meaning O F → Type 0
  Sizes m = Fits m ⊎ Misfit m

  -- a cell exists only below the counts
  abbrev pub Inside : Meaning O F → Type 0
  Inside m = (s i : ℕ) (c : Cell O) → m.entry s i ≡ Ok c → (s < m.states) × (i < m.inputs)

  -- a cell leads to a state
  abbrev pub Closed : Meaning O F → Type 0
  Closed m = (s i : ℕ) (c : Cell O) → m.entry s i ≡ Ok c → c.next < m.states

  -- state s has a cell at input i
  abbrev pub Filled : Meaning O F → ℕ → ℕ → Type 0
  Filled m s i = is_ok (m.entry s i) ≡ true

  -- no misfit, and every cell is there
  pub record Sound (m : Meaning O F) : Type 0 where
    pub fits : Fits m
    pub filled : (s i : ℕ) → s < m.states → i < m.inputs → Filled m s i
