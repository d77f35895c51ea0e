-- The round trip: a written chain, read again.
use Rattle.std.proofs.Common.{◌≡◌, ℕ, zero, suc, ◌+◌, ◌-◌, ◌*◌, ◌<◌, ◌≤◌, true, List, [], ◌∷◌, ◌++◌, length, get_or, drop, is_ok, Ok, Err, Result, sym, refl, ap, ◌∙◌, subst, inl, inr, arith}
use Rattle.std.proofs.lemmas.List.{drop-drop, drop_at, get_or-drop, get_or_append_left}
use Rattle.std.proofs.lemmas.Bool.{cases_lt}
use Rattle.std.proofs.lemmas.Bool.Decides.{nat_tests}
use Rattle.std.specs.Result.{result_and}
use Rattle.machine.specs.Meaning.{Meaning, Sound, Inside, Closed}
use Rattle.machine.specs.declared.Cell.{Cell}
use Rattle.machine.specs.declared.faults.StoredFault.{StoredFault}
use Rattle.machine.specs.declared.outputs.Command.{Command}
use Rattle.forms.specs.Bounds.{after_test, in_bounds}
use Rattle.forms.specs.Bytes.{number, states, inputs, start, count}
use Rattle.forms.specs.Chains.{Trail, Read, Ended, trail, walk, record_at, given, chain_entry, chain_meaning, chain_opening}
use Rattle.forms.specs.Entries.{bounds_test}
use Rattle.writing.specs.Bytes.{bytes_of}
use Rattle.writing.specs.Longest.{SameCell, Apart, LongestFrom, LongestRuns}
use Rattle.writing.specs.Runs.{filled, row_of, runs}
use Rattle.writing.specs.Writes.{Reopens}
use Rattle.writing.specs.Written.{link_to, records, place_of, state_runs, records_before, heads, rows, chain_numbers, written}
use Rattle.writing.specs.declared.rows.Run.{Run}
use Rattle.writing.proofs.Counts.{length_heads, length_rows, before_le, before_part, head_at, rows_part, length_written}
use Rattle.writing.proofs.Puts.{number_bytes}
use Rattle.writing.proofs.RunSteps.{runs_some}
use Rattle.writing.proofs.Tiles.{Tiled, row_tiled}

-- the five numbers of record r
record Fields (bs : List ℕ) (r a b c d e : ℕ) : Type 0 where
  first : (record_at bs r).from ≡ a
  last : (record_at bs r).to ≡ b
  next : (record_at bs r).next ≡ c
  output : (record_at bs r).output ≡ d
  link : (record_at bs r).link ≡ e

-- the records from r on are those of the runs
abbrev Holds : List ℕ → (ℕ → Cell Command) → ℕ → List Run → Type 0
Holds bs row r [] = Unit {0}
Holds bs row r (x ∷ xs) =
    Fields bs r x.from x.to (row x.from).next (row x.from).output.number (link_to (r + 1) xs)
    × Holds bs row (r + 1) xs

-- the walk that reads them
abbrev trail_of : ℕ → List Run → Trail
trail_of r [] = Ended
trail_of r (x ∷ xs) = Read r (trail_of (r + 1) xs)

fields : (ns : List ℕ) (r a b c d e : ℕ) (w : List ℕ) → drop (place_of (states (bytes_of ns)) r) ns ≡ a ∷ b ∷ c ∷ d ∷ e ∷ w
    → Fields (bytes_of ns) r a b c d e
fields ns r a b c d e w h =
    let p = place_of (states (bytes_of ns)) r in
    let one : (f : ℕ) → number (bytes_of ns) (p + f) ≡ get_or (a ∷ b ∷ c ∷ d ∷ e ∷ w) f 0 =
    λ f. number_bytes ns (p + f) ∙ (sym (get_or-drop p ns f 0) ∙ ap (λ x. get_or x f 0) h) in
    let z : p ≡ p + 0 = omega arith in
    record { first = ap (number (bytes_of ns)) z ∙ one 0; last = one 1; next = one 2; output = one 3; link = one 4 }

holds : (ns : List ℕ) (row : ℕ → Cell Command) (r : ℕ) (xs : List Run) (w : List ℕ) → 1 ≤ r
    → drop (place_of (states (bytes_of ns)) r) ns ≡ records row r xs ++ w → Holds (bytes_of ns) row r xs
holds ns row r [] w o h = tt
holds ns row r (x ∷ xs) w o h =
    let n = states (bytes_of ns) in
    let q : place_of n (r + 1) ≡ place_of n r + 5 = omega arith in
    let behind = ap (λ y. drop y ns) q ∙ (sym (drop-drop 5 (place_of n r) ns) ∙ ap (drop 5) h) in
    (fields ns r _ _ _ _ _ (records row (r + 1) xs ++ w) h, holds ns row (r + 1) xs w (omega arith) behind)

module _ (bs : List ℕ) (row : ℕ → Cell Command) where
  -- a 0 ends a walk
  ends : (more p : ℕ) → trail more bs p 0 ≡ Ended
  ends zero p = refl
  ends (suc more) p = grind (arith, nat_tests)

  -- the walk along the records of the runs
  walked : (more p r : ℕ) (xs : List Run) → length xs ≤ more → p < r → r + length xs ≤ count bs + 1 → Holds bs row r xs
      → trail more bs p (link_to r xs) ≡ trail_of r xs
  walked more p r [] l h c held = ends more p
  walked zero p r (x ∷ xs) l h c held = absurd (omega arith)
  walked (suc more) p r (x ∷ xs) l h c held =
      let f = held.0 in
      let more = walked more r (r + 1) xs (omega arith) (omega arith) (omega arith) held.1 in
      grind (arith, nat_tests)

  -- the walk gives the cell of each input
  gives : (k s i p r a : ℕ) (xs : List Run) → Tiled row k a xs → Holds bs row r xs → ((x : ℕ) → x < k → (row x).next < states bs)
      → a ≤ i → i < k → given bs s i p (trail_of r xs) ≡ Ok (row i)
  gives k s i p r a [] tiles held below l h = absurd (omega arith)
  gives k s i p r a (x ∷ xs) tiles held below l h =
      let f = held.0 in
      elim (cases_lt x.to i) [
        | inl b ↦ let more = gives k s i r (r + 1) (x.to + 1) xs tiles.5 held.1 below (omega arith) h in grind (arith, nat_tests)
        | inr b ↦ let n = below x.from (omega arith) in
            let same = tiles.3 i l b in
            let first = ap row tiles.0 in
            grind (arith, nat_tests)
      ]

  -- two records with equal numbers have equal cells
  same_cells : (r a b : ℕ) (p q t u v w : ℕ) → Fields bs r p q (row a).next (row a).output.number t
      → Fields bs (r + 1) u v (row b).next (row b).output.number w → SameCell bs r (r + 1) → row b ≡ row a
  same_cells r a b p q t u v w f g same =
      let make : ℕ → ℕ → Cell Command = λ x y. record { next = x; output = record { number = y } } in
      let next : (row b).next ≡ (row a).next = cc in
      let output : (row b).output.number ≡ (row a).output.number = cc in
      ap (λ x. make x (row b).output.number) next ∙ ap (make (row a).next) output

  apart : (k r : ℕ) (x : Run) (xs : List Run) → (x.to + 1 < k → row (x.to + 1) ≡ row x.from → ⊥) → Tiled row k (x.to + 1) xs
      → Holds bs row r (x ∷ xs) → Apart bs r (trail_of (r + 1) xs)
  apart k r x [] other tiles held = tt
  apart k r x (y ∷ ys) other tiles held =
      λ same. other (omega (arith, tiles.1, tiles.2))
      (ap row (sym tiles.0) ∙ same_cells r x.from y.from _ _ _ _ _ _ held.0 held.1.0 same)

  -- and reads one record for each longest run
  longest : (k r a : ℕ) (xs : List Run) → Tiled row k a xs → Holds bs row r xs → LongestFrom bs k a (trail_of r xs)
  longest k r a [] tiles held = tiles
  longest k r a (x ∷ xs) tiles held =
      let e1 = held.0.last in
      let more = longest k (r + 1) (x.to + 1) xs tiles.5 held.1 in (
        held.0.first ∙ tiles.0,
        omega (arith, tiles.1),
        omega (arith, tiles.2),
        apart k r x xs (λ u v. tiles.4 u (v ∙ ap row tiles.0)) tiles.5 held,
        subst (λ z. LongestFrom bs k (z + 1) (trail_of (r + 1) xs)) (sym e1) more,
      )

-- the tests that come before an entry, and before an opening
bounds_pass : (n k s i : ℕ) (next : Result (Cell Command) StoredFault) → s < n → i < k
    → result_and (bounds_test n k s i) next ≡ next
bounds_pass n k s i next h l =
    after_test (bounds_test n k s i) tt next (in_bounds n k s i h l)

bounds_from : (n k s i : ℕ) (next : Result (Cell Command) StoredFault) (c : Cell Command) → result_and (bounds_test n k s i) next ≡ Ok c
    → (s < n) × (i < k)
bounds_from n k s i next c h = (grind (arith, nat_tests), grind (arith, nat_tests))

-- so a chain has cells only below its counts
pub chain_inside : (bs : List ℕ) → Inside (chain_meaning bs)
chain_inside bs s i c e = bounds_from (states bs) (inputs bs) s i _ c e

opens : (bs : List ℕ) → 1 ≤ states bs → states bs ≤ 128 → 1 ≤ inputs bs → inputs bs ≤ 32 → start bs < states bs → count bs ≤ 4096
    → length bs ≡ 2 * (4 + states bs + 5 * count bs) → chain_opening bs ≡ Ok (chain_meaning bs)
opens bs a b c d e f g = grind (arith, nat_tests)

module _ {F : Type 0} (m : Meaning Command F) (sound : Sound m) where
  -- the records of state s
  held : (s : ℕ) → s < m.states → Holds (written m) (row_of m s) (records_before m s + 1) (state_runs m s)
  held s h =
      let n = m.states in
      let ns = chain_numbers m in
      let hs = heads m n in
      let rs = rows m n in
      let t = records_before m s in
      let sn : states (written m) ≡ n = number_bytes ns 0 in
      let so = rows_part m s n h in
      let q : place_of (states (written m)) (t + 1) ≡ suc (suc (suc (suc (n + 5 * t)))) = omega arith in
      let rest = records (row_of m s) (t + 1) (state_runs m s) ++ so.0 in
      let behind = drop_at (rows m s) rest (5 * t) (length_rows m s) in
      holds ns (row_of m s) (t + 1) (state_runs m s) so.0 (omega arith)
      (cc (q, drop-drop (5 * t) n (hs ++ rs), drop_at hs rs n (length_heads m n), so.1, behind))

  -- the walk of state s
  walk_is : (s : ℕ) → s < m.states → walk (written m) s ≡ trail_of (records_before m s + 1) (state_runs m s)
  walk_is s h =
      let n = m.states in
      let ns = chain_numbers m in
      let t = records_before m s in
      let xs = state_runs m s in
      let cn : count (written m) ≡ records_before m n = number_bytes ns 3 in
      let part = before_part m s n h in
      let e : 4 + s ≡ suc (suc (suc (suc s))) = omega arith in
      let k : m.inputs ≡ suc (m.inputs - 1) = omega (arith, sound.fits.some_inputs) in
      let hd : number (written m) (4 + s) ≡ t + 1 =
      number_bytes ns (4 + s) ∙ (ap (λ x. get_or ns x 0) e
      ∙ (get_or_append_left (heads m n) (rows m n) 0 s (omega (arith, length_heads m n)) ∙ head_at m s n h)) in
      let some : link_to (t + 1) xs ≡ t + 1 =
      ap (λ x. link_to (t + 1) (runs (row_of m s) m.inputs 0 0 x)) k
      ∙ runs_some (row_of m s) m.inputs 0 0 (m.inputs - 1) (t + 1) (omega arith) in
      ap (trail (count (written m)) (written m) 0) (hd ∙ sym some)
      ∙ walked (written m) (row_of m s) (count (written m)) 0 (t + 1) xs (omega (arith, part)) (omega arith) (omega (arith, part)) (held s h)

  -- what the four numbers in front are
  record Front : Type 0 where
    states_are : states (written m) ≡ m.states
    inputs_are : inputs (written m) ≡ m.inputs
    start_is : start (written m) ≡ m.start
    count_is : count (written m) ≡ records_before m m.states

  front : Front
  front =
      let ns = chain_numbers m in
      record { states_are = number_bytes ns 0; inputs_are = number_bytes ns 1; start_is = number_bytes ns 2; count_is = number_bytes ns 3 }

  -- its records are longest runs
  pub longest_runs : LongestRuns (written m)
  longest_runs s h =
      let f = front in
      let l : s < m.states = omega (arith, f.states_are) in
      let tiles = row_tiled (row_of m s) m.inputs sound.fits.some_inputs in
      let so = longest (written m) (row_of m s) m.inputs (records_before m s + 1) 0 (state_runs m s) tiles (held s l) in
      let at = subst (LongestFrom (written m) m.inputs 0) (sym (walk_is s l)) so in
      subst (λ k. LongestFrom (written m) k 0 (walk (written m) s)) (sym f.inputs_are) at

  -- the next state of a cell that is there
  below_states : {G : Type 0} (r : Result (Cell Command) G) (n : ℕ) → ((c : Cell Command) → r ≡ Ok c → c.next < n)
      → is_ok r ≡ true → (filled r).next < n
  below_states (Ok c) n h e = h c refl
  below_states (Err x) n h e = absurd cc

  -- an answer with a cell
  filled_is : {G : Type 0} (r : Result (Cell Command) G) → is_ok r ≡ true → r ≡ Ok (filled r)
  filled_is (Ok c) e = refl
  filled_is (Err x) e = cc

  -- each cell is read again
  reads : Closed m → (s i : ℕ) → s < m.states → i < m.inputs → chain_entry (written m) s i ≡ Ok (row_of m s i)
  reads closed s i h l =
      let f = front in
      let bs = written m in
      let tiles = row_tiled (row_of m s) m.inputs sound.fits.some_inputs in
      let below : (x : ℕ) → x < m.inputs → (row_of m s x).next < states bs =
      λ x u. let n = below_states (m.entry s x) m.states (closed s x) (sound.filled s x h u) in omega (arith, f.states_are) in
      bounds_pass (states bs) (inputs bs) s i _ (omega (arith, f.states_are)) (omega (arith, f.inputs_are))
      ∙ (ap (given bs s i 0) (walk_is s h)
      ∙ gives bs (row_of m s) m.inputs s i 0 (records_before m s + 1) 0 (state_runs m s) tiles (held s h) below (omega arith) l)

  -- a written chain opens again, and that is the same machine
  pub reopens : Inside m → Closed m → Reopens m (written m)
  reopens inside closed =
      let f = front in
      let fits = sound.fits in
      let bs = written m in
      let le = before_le m m.states fits.few_inputs in
      let len = length_written m in
      let sn = f.states_are in
      let kn = f.inputs_are in
      let tn = f.start_is in
      let cn = f.count_is in (
        chain_meaning bs,
        opens bs (omega arith) (omega arith) (omega arith) (omega arith) (omega arith) (omega arith) (omega arith),
        record {
          states = sn;
          inputs = kn;
          start = tn;
          cells = λ s i c e. let at = inside s i c e in reads closed s i at.0 at.1 ∙ ap Ok (ap filled e);
          no_others = λ s i c e.
              let at = bounds_from (states bs) (inputs bs) s i _ c e in
              let h : s < m.states = omega (arith, at.0) in
              let l : i < m.inputs = omega (arith, at.1) in
              filled_is (m.entry s i) (sound.filled s i h l) ∙ ap Ok (ap filled (sym (reads closed s i h l) ∙ e));
        },
      )
