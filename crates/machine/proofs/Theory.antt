-- A sound meaning, by the test and by the record, and the machine of the theory that it is.
use Rattle.std.proofs.Common.{◌≡◌, ℕ, ◌<◌, ◌≤◌, true, ltb, List, ℤ, is_ok, Ok, Err, Decides, Result, sym, refl, ⊎_elim, arith}
use Rattle.machine.specs.Meaning as meaning
use Rattle.machine.specs.Meaning.{Meaning, Fits, Misfit, Sizes, Filled, Sound}
use Rattle.machine.specs.Theory.{next_of, mealy_of, filled_row, sound_by}
use Rattle.machine.specs.declared.Cell.{Cell}
use Rattle.mealy.specs.Below.{every}
use Rattle.mealy.specs.Mealy as theory
use Rattle.mealy.proofs.Below.{every_at, every_from}
use Rattle.std.proofs.lemmas.Bool.{and_parts, and_from, lt-ltb, ltb-true, true≢false}

module _ {O F : Type 0} (m : Meaning O F) where
  -- No meaning is larger than the panel's limits.
  pub few_states : Sizes m → m.states ≤ 128
  few_states h = ⊎_elim (λ (f : Fits m). f.few_states) (λ (f : Misfit m). omega (arith, f.no_states)) h

  pub few_inputs : Sizes m → m.inputs ≤ 32
  few_inputs h = ⊎_elim (λ (f : Fits m). f.few_inputs) (λ (f : Misfit m). omega (arith, f.no_inputs)) h

  pub start_fits : Sizes m → m.start < 128
  start_fits h = ⊎_elim (λ (f : Fits m). omega (arith, f.starts, f.few_states)) (λ (f : Misfit m). omega (arith, f.no_start)) h

  -- A sound meaning has a state, fits the limits, and has every cell.
  pub some_state : sound_by m ≡ true → 0 < m.states
  some_state h = ltb-true 0 m.states (and_parts (ltb 0 m.states) (every m.states (filled_row m)) h).0

  pub sound_fits : Sizes m → sound_by m ≡ true → Fits m
  sound_fits sizes h = ⊎_elim (λ f. f) (λ (f : Misfit m). absurd (omega (arith, f.no_states, some_state h))) sizes

  pub sound_filled : sound_by m ≡ true → (s i : ℕ) → s < m.states → i < m.inputs → Filled m s i
  sound_filled h s i ls li =
      let rows = (and_parts (ltb 0 m.states) (every m.states (filled_row m)) h).1 in
      every_at m.inputs (λ i. is_ok (m.entry s i)) (every_at m.states (filled_row m) rows s ls) i li

  -- The test decides soundness.
  pub sound_decides : Sizes m → Decides (sound_by m) (Sound m)
  sound_decides sizes = (
    λ h. record { fits = sound_fits sizes h; filled = sound_filled h },
    λ sound.
        and_from _ _ (lt-ltb 0 m.states sound.fits.some_states)
        (every_from _ _ (λ s ls. every_from _ _ (λ i li. sound.filled s i ls li))),
  )

-- A cell leads where the law of closedness says.
leads_inside : {O F : Type 0} (n : ℕ) (r : Result (Cell O) F) → is_ok r ≡ true
    → ((c : Cell O) → r ≡ Ok c → c.next < n) → next_of r < n
leads_inside n (Ok c) h closed = closed c refl
leads_inside n (Err f) h closed = absurd (true≢false (sym h))

-- So a sound meaning is a complete machine.
pub sound_closed : {O F : Type 0} (key : O → List ℤ) (m : Meaning O F) → meaning.Closed m → sound_by m ≡ true
    → theory.Closed (mealy_of key m)
sound_closed key m closed h s i ls li =
    leads_inside m.states (m.entry s i) (sound_filled m h s i ls li) (closed s i)
