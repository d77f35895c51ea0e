-- Complete Mealy machines.
use Rattle.std.specs.Prelude.{ℕ, ◌<◌, List, ℤ}

-- A machine by its counts and, for each state and input, the next state and the key of the output.
-- Two outputs are alike where their keys are equal.
pub record Mealy : Type 0 where
  pub states : ℕ
  pub inputs : ℕ
  pub next : ℕ → ℕ → ℕ
  pub key : ℕ → ℕ → List ℤ

-- The machine is complete: each input leads each state to a state.
abbrev pub Closed : Mealy → Type 0
Closed m = (s i : ℕ) → s < m.states → i < m.inputs → m.next s i < m.states
