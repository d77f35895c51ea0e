-- The heads and the records of the states, one after another.
use Rattle.std.proofs.Common.{◌≡◌, ℕ, zero, suc, ◌+◌, ◌-◌, ◌*◌, ◌<◌, ◌≤◌, List, [], ◌∷◌, ◌++◌, length, get_or, sym, refl, ap, ◌∙◌, inl, inr, append_assoc, append-nil, arith}
use Rattle.std.proofs.lemmas.List.{length-append, get_or_append_left, get_or-append_right}
use Rattle.std.proofs.lemmas.Bool.{cases_lt}
use Rattle.machine.proofs.Theory.{few_states, few_inputs}
use Rattle.machine.specs.Meaning.{Meaning, Sizes}
use Rattle.machine.specs.declared.Cell.{Cell}
use Rattle.machine.specs.declared.outputs.Command.{Command}
use Rattle.writing.specs.Bytes.{puts}
use Rattle.writing.specs.Runs.{row_of, row_runs}
use Rattle.writing.specs.Written.{records, place_of, state_runs, records_before, heads, rows, chain_numbers, written, bytes_needed}
use Rattle.writing.proofs.Puts.{puts_append, length_bytes}
use Rattle.writing.proofs.RunSteps.{length_records, runs_le}

module _ {F : Type 0} (m : Meaning Command F) where
  pub length_heads : (s : ℕ) → length (heads m s) ≡ s
  length_heads zero = refl
  length_heads (suc s) = omega (arith, length-append (heads m s) ((records_before m s + 1) ∷ []), length_heads s)

  pub length_listed : (s : ℕ) (hs : List ℕ) → hs ≡ heads m s → length hs ≡ s
  length_listed s hs e = ap length e ∙ length_heads s

  pub length_rows : (s : ℕ) → length (rows m s) ≡ 5 * records_before m s
  length_rows zero = refl
  length_rows (suc s) =
      let rs = records (row_of m s) (records_before m s + 1) (state_runs m s) in
      omega (arith, length-append (rows m s) rs, length_rows s, length_records (row_of m s) (records_before m s + 1) (state_runs m s))

  -- a state has at most 32 records
  pub before_le : (s : ℕ) → m.inputs ≤ 32 → records_before m s ≤ 32 * s
  before_le zero h = omega arith
  before_le (suc s) h = omega (arith, before_le s h, runs_le (row_of m s) m.inputs 0 0 m.inputs)

  -- so all of a machine's states have at most 4096
  pub few_before : Sizes m → (s : ℕ) → s ≤ m.states → records_before m s ≤ 4096
  few_before sizes s h = omega (arith, before_le s (few_inputs m sizes), few_states m sizes)

  -- the records up to state s, and its own, are not more than those of n states
  pub before_part : (s n : ℕ) → s < n → records_before m s + length (state_runs m s) ≤ records_before m n
  before_part s zero h = absurd (omega arith)
  before_part s (suc n) h =
      elim (cases_lt s n) [
        | inl l ↦ omega (arith, before_part s n l)
        | inr l ↦ let e : s ≡ n = omega arith in omega (arith, ap (λ x. records_before m x + length (state_runs m x)) e)
      ]

  pub head_at : (s n : ℕ) → s < n → get_or (heads m n) s 0 ≡ records_before m s + 1
  head_at s zero h = absurd (omega arith)
  head_at s (suc n) h =
      let last : List ℕ = (records_before m n + 1) ∷ [] in
      elim (cases_lt s n) [
        | inl l ↦ get_or_append_left (heads m n) last 0 s (omega (arith, length_heads n)) ∙ head_at s n l
        | inr l ↦ let e : s ≡ n = omega arith in
            let z : s - n ≡ 0 = omega arith in
            get_or-append_right (heads m n) last n s 0 (length_heads n) l
            ∙ (ap (λ x. get_or last x 0) z ∙ ap (λ x. records_before m x + 1) (sym e))
      ]

  -- the head of state s, in the list of all
  pub head_in : (s : ℕ) (hs : List ℕ) → hs ≡ heads m m.states → s < length hs
      → (s < m.states) × (get_or hs s 0 ≡ records_before m s + 1)
  head_in s hs e h =
      let l : s < m.states = omega (arith, length_listed m.states hs e) in
      (l, ap (λ x. get_or x s 0) e ∙ head_at s m.states l)

  -- the records of state s stand behind those of the states before it
  pub rows_part : (s n : ℕ) → s < n
      → (w : List ℕ) × (rows m n ≡ rows m s ++ (records (row_of m s) (records_before m s + 1) (state_runs m s) ++ w))
  rows_part s zero h = absurd (omega arith)
  rows_part s (suc n) h =
      let of : ℕ → List ℕ = λ x. records (row_of m x) (records_before m x + 1) (state_runs m x) in
      elim (cases_lt s n) [
        | inl l ↦ let so = rows_part s n l in (
          so.0 ++ of n,
          ap (λ x. x ++ of n) so.1
              ∙ (append_assoc (rows m s) (of s ++ so.0) (of n) ∙ ap (λ x. rows m s ++ x) (append_assoc (of s) so.0 (of n))),
        )
        | inr l ↦ let e : s ≡ n = omega arith in
            ([], ap (λ x. rows m x ++ of x) (sym e) ∙ ap (λ x. rows m s ++ x) (sym (append-nil (of s))))
      ]

  pub length_written : length (written m) ≡ bytes_needed m
  length_written =
      let n = m.states in
      omega (arith, length_bytes (chain_numbers m), length-append (heads m n) (rows m n), length_heads n, length_rows n)

  -- the count of a kept row is that of its state
  pub count_is : (s k n : ℕ) (row : ℕ → Cell Command) → row ≡ row_of m s → k ≡ m.inputs → n ≡ length (row_runs row k)
      → n ≡ length (state_runs m s)
  count_is s k n row e f g = cc

  -- one state's records more
  pub rows_more : (s k n r : ℕ) (row : ℕ → Cell Command) (bz bs bt : List ℕ) → row ≡ row_of m s → k ≡ m.inputs
      → r ≡ records_before m s + 1
      → bs ≡ puts bz (4 + n) (rows m s) → bt ≡ puts bs (place_of n r) (records row r (row_runs row k))
      → bt ≡ puts bz (4 + n) (rows m (s + 1))
  rows_more s k n r row bz bs bt e f g x y =
      let q : s + 1 ≡ suc s = omega arith in
      let of = records (row_of m s) (records_before m s + 1) (state_runs m s) in
      let more = puts_append bz (4 + n) (place_of n (records_before m s + 1)) (rows m s) of (omega (arith, length_rows s)) in
      cc (more, ap (rows m) q)
