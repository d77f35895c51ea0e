-- A round over the numbers of P j gives those of P (j + 1), and finds the first input that sets two states apart.
use Rattle.std.proofs.Common.{◌≡◌, ℕ, suc, ◌<◌, Bool, true, not, ◌&&◌, eqb, List, get_or, ℤ, sym, ap, ◌∙◌}
use Rattle.std.proofs.lemmas.Bool.{and_from, and_right, eq-eqb, ne_eqb, both_ways}
use Rattle.machine.specs.Meaning.{Meaning, Closed}
use Rattle.machine.specs.Theory.{mealy_of, sound_by}
use Rattle.machine.proofs.Theory.{sound_filled, sound_closed}
use Rattle.mealy.specs.Below.{lowest, count}
use Rattle.mealy.specs.FirstWord.{first_input}
use Rattle.mealy.specs.Keys.{same_key}
use Rattle.mealy.specs.Mealy.{Mealy}
use Rattle.mealy.specs.Partitions.{alike_at, share, leads, block, block_count}
use Rattle.mealy.proofs.Below.{by_test}
use Rattle.mealy.proofs.Counts.{count_ext}
use Rattle.mealy.proofs.Numbers.{block_share, share_block}
use Rattle.mealy.proofs.Share.{share_down}
use Rattle.rounds.specs.Joining.{joins_at, joins, finer, lead_by, number_by}
use Rattle.rounds.specs.Rows.{Numbered}
use Rattle.rounds.proofs.Passes.{every_same, lowest_same}
use Rattle.rounds.proofs.Leading.{number_agrees, leads_agree}
use Rattle.rounds.proofs.Joining.{cells_join_lem}

-- Equal numbers, as a test, are a shared block.
pub numbers_tell : (m : Mealy) (j s t : ℕ) → eqb (block m j s) (block m j t) ≡ share m j s t
numbers_tell m j s t =
    by_test (share m j s t)
    (λ e. eq-eqb (block m j s) (block m j t) (share_block m j s t e) ∙ sym e)
    (λ e. ne_eqb (block m j s) (block m j t) (λ q. both_ways (share m j s t) e (block_share m j s t q)) ∙ sym e)

module _ {O F : Type 0} (key : O → List ℤ) (m : Meaning O F) (closed : Closed m) (sound : sound_by m ≡ true)
    (j : ℕ) (prev : List ℕ) (held : Numbered (mealy_of key m) j prev) where
  same_number : (s t : ℕ) → s < m.states → t < m.states
      → eqb (get_or prev s 0) (get_or prev t 0) ≡ share (mealy_of key m) j s t
  same_number s t a b =
      ap (λ (x : ℕ). eqb x (get_or prev t 0)) (held s a)
      ∙ ap (λ (x : ℕ). eqb (block (mealy_of key m) j s) x) (held t b)
      ∙ numbers_tell (mealy_of key m) j s t

  -- Two states join at an input where the theory has them alike,
  joins_at_alike : (s t : ℕ) → s < m.states → t < m.states → (i : ℕ) → i < m.inputs
      → joins_at key m prev s t i ≡ alike_at (mealy_of key m) (share (mealy_of key m) j) s t i
  joins_at_alike s t a b i l =
      let M : Mealy = mealy_of key m in
      let cl = sound_closed key m closed sound in
      cells_join_lem key prev (m.entry s i) (m.entry t i) (sound_filled m sound s i a l) (sound_filled m sound t i b l)
      ∙ ap (λ (x : Bool). same_key (M.key s i) (M.key t i) && x)
      (same_number (M.next s i) (M.next t i) (cl s i a l) (cl t i b l))

  -- so at every input, with one number, where they share a block of P (j + 1).
  finer_share : (s t : ℕ) → s < m.states → t < m.states
      → finer key m prev s t ≡ share (mealy_of key m) (suc j) s t
  finer_share s t a b =
      let M : Mealy = mealy_of key m in
      let joined : joins key m prev s t ≡ share M (suc j) s t = every_same m.inputs _ _ (joins_at_alike s t a b) in
      ap (λ (x : Bool). x && joins key m prev s t) (same_number s t a b)
      ∙ ap (λ (x : Bool). share M j s t && x) joined
      ∙ by_test (share M (suc j) s t) (λ e. and_from _ _ (share_down M j s t e) e ∙ sym e) (λ e. and_right _ _ e ∙ sym e)

  pub next_number : (s : ℕ) → s < m.states → number_by (finer key m prev) s ≡ block (mealy_of key m) (suc j) s
  next_number = number_agrees m.states (finer key m prev) (share (mealy_of key m) (suc j)) finer_share

  pub next_count : count m.states (lead_by (finer key m prev)) ≡ block_count (mealy_of key m) (suc j)
  next_count =
      count_ext m.states (lead_by (finer key m prev)) (leads (mealy_of key m) (suc j))
      (leads_agree m.states (finer key m prev) (share (mealy_of key m) (suc j)) finer_share)

  pub first_input_is : (s t : ℕ) → s < m.states → t < m.states
      → lowest m.inputs (λ i. not (joins_at key m prev s t i)) ≡ first_input (mealy_of key m) j s t
  first_input_is s t a b = lowest_same m.inputs _ _ (λ i l. ap not (joins_at_alike s t a b i l))
