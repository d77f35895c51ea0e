-- The table written is the machine of the blocks.
use Rattle.std.proofs.Common.{◌≡◌, ℕ, ◌+◌, ◌*◌, ◌/◌, ◌%◌, ◌<◌, ◌≤◌, true, eqb, List, [], ◌∷◌, ◌++◌, map, length, get_or, take, drop, set, ℤ, Option, Some, None, is_ok, Ok, Err, Result, sym, refl, ap, ◌∙◌, subst, mod-lt, arith, below_more}
use lib.Arith.{digits_div, digits_mod}
use Rattle.std.specs.List.{slice_get, range_with_len}
use Rattle.std.proofs.lemmas.Nat.{mul-add-lt}
use Rattle.std.proofs.lemmas.List.FromFn.{fill_by_all, get_or-map-range_with_len, length-map-range_with_len}
use Rattle.std.proofs.lemmas.List.{length-set, get_or-set_same, get_or-set_other, get_or-take, length-take-le, take-append-drop, get_or_append_left}
use Rattle.std.proofs.lemmas.Bool.{true≢false}
use Rattle.machine.specs.Meaning as meaning
use Rattle.machine.specs.Meaning.{Meaning}
use Rattle.machine.specs.Theory.{next_of, key_of, mealy_of, sound_by}
use Rattle.machine.specs.declared.Cell.{Cell}
use Rattle.machine.proofs.Theory.{sound_filled, sound_closed}
use Rattle.mealy.specs.Below.{lowest}
use Rattle.mealy.specs.Mealy.{Mealy, Closed}
use Rattle.mealy.specs.Partitions.{block, block_count, Settled}
use Rattle.mealy.specs.Reduced.{leader_of, reduced, Smallest}
use Rattle.mealy.specs.Words.{Word, Equivalent}
use Rattle.mealy.proofs.Reduced.{leader_of_is, reduced_closed, reduced_is_equivalent, reduced_is_smallest, block_equivalent}
use Rattle.mealy.proofs.Telling.{AnswerAlike, answers_equivalent, equivalent_answers}
use Rattle.rounds.specs.Joining.{some_below}
use Rattle.rounds.proofs.Firsts.{below_some, below_none}
use Rattle.rounds.proofs.Passes.{lowest_same}
use Rattle.sheet.specs.Steps.{Blocks, Front}
use Rattle.sheet.specs.Tables.{next_at, output_of, OutputsWritten, key_at, table_mealy}
use Rattle.sheet.proofs.Copying.{rest_more, nth_set_same, nth_set_below, row_below, some_width}

-- One more cell written.
module _ {O F : Type 0} {key : O → List ℤ} {m : Meaning O F} {row : List ℕ} {j total : ℕ} (b : Blocks key m row j total) (x : ℕ) (in-all : x < total) where
  abbrev N : Mealy
  N = mealy_of key m

  low : x < block_count N j * m.inputs
  low = omega (arith, b.all)

  -- The first state with the number of the class at place x leads it,
  abbrev found : Option ℕ
  found = some_below m.states (lowest m.states (λ u. eqb (get_or row u 0) (x / m.inputs)))

  leads : lowest m.states (λ u. eqb (get_or row u 0) (x / m.inputs)) ≡ leader_of N j (x / m.inputs)
  leads = lowest_same m.states _ _ (λ s l. ap (λ (y : ℕ). eqb y (x / m.inputs)) (b.held s l))

  leader_is : leader_of N j (x / m.inputs) < m.states
  leader_is =
      (leader_of_is N j (x / m.inputs) (row_below x m.inputs (block_count N j) (some_width x (block_count N j) m.inputs low) low)).0

  -- so there is one.
  pub some_state : found ≡ None → ⊥
  some_state none = omega (arith, below_none m.states _ none, leads, leader_is)

  module _ (s : ℕ) (here : found ≡ Some s) where
    leader_at : s ≡ leader_of N j (x / m.inputs)
    leader_at = (below_some m.states _ s here).0 ∙ leads

    -- There is no fault there,
    pub table_filled : (e : F) → m.entry s (x % m.inputs) ≡ Err e → ⊥
    table_filled e h =
        true≢false (sym (sound_filled m b.sound s (x % m.inputs) (below_some m.states _ s here).1
        (mod-lt x (some_width x (block_count N j) m.inputs low))) ∙ ap is_ok h)

    -- and its cell is the next one of the table.
    pub front_one : meaning.Closed m → {next : List ℕ} {outs : List O} {next' : List ℕ} {outs' : List O} (c : Cell O)
        → m.entry s (x % m.inputs) ≡ Ok c → x < length next' → x < length outs'
        → Front key m j x next outs next' outs'
        → Front key m j (x + 1) next outs (set next' x (get_or row c.next 0)) (set outs' x c.output)
    front_one closed {next} {outs} {next'} {outs'} c e ln lo so =
        let written : get_or row c.next 0 ≡ next_at N j x =
        b.held c.next (closed s (x % m.inputs) c e)
        ∙ ap (block N j) (sym (ap next_of e)) ∙ ap (λ (u : ℕ). block N j (N.next u (x % m.inputs))) leader_at in
        record {
          nexts =
              below_more (λ y. get_or (set next' x (get_or row c.next 0)) y 0 ≡ next_at N j y) x
              (λ y q. get_or-set_other next' x y (get_or row c.next 0) 0 (omega arith) ∙ so.nexts y q)
              (get_or-set_same next' x (get_or row c.next 0) 0 ln ∙ written);
          next_rest = rest_more next' next x _ so.next_rest;
          next_size = length-set next' x _ ∙ so.next_size;
          outputs = record {
            written =
                below_more (λ y. slice_get (set outs' x c.output) y ≡ output_of (m.entry (leader_of N j (y / m.inputs)) (y % m.inputs))) x
                (λ y q. nth_set_below outs' x y c.output q ∙ so.outputs.written y q)
                (nth_set_same outs' x c.output lo ∙ sym (ap output_of e) ∙ ap (λ (u : ℕ). output_of (m.entry u (x % m.inputs))) leader_at);
            rest = rest_more outs' outs x _ so.outputs.rest;
            size = length-set outs' x _ ∙ so.outputs.size;
          };
        }

-- The list of next classes, from its places.
pub nexts_are : (N : Mealy) (j n : ℕ) (next next' : List ℕ) → n ≤ length next'
    → ((y : ℕ) → y < n → get_or next' y 0 ≡ next_at N j y) → drop n next' ≡ drop n next
    → next' ≡ map (next_at N j) (range_with_len 0 n) ++ drop n next
nexts_are N j n next next' room nexts rest =
    sym (take-append-drop n next')
    ∙ ap (λ (z : List ℕ). z ++ drop n next')
    (fill_by_all (next_at N j) (take n next') n 0 (length-take-le n next' room) (λ y h. get_or-take n next' y 0 h ∙ nexts y h))
    ∙ ap (λ (z : List ℕ). map (next_at N j) (range_with_len 0 n) ++ z) rest

-- Machines that agree at every state and input have equivalent states.
agree_answers : (a b : Mealy)
    → ((s i : ℕ) → s < a.states → i < a.inputs → (a.next s i ≡ b.next s i) × (a.key s i ≡ b.key s i))
    → Closed a → (s : ℕ) → s < a.states → (w : List ℕ) → Word a.inputs w → AnswerAlike a b s s w
agree_answers a b same cl s h [] ok = refl
agree_answers a b same cl s h (i ∷ w) ok =
    let both = same s i h ok.0 in
    let tail = agree_answers a b same cl (a.next s i) (cl s i h ok.0) w ok.1 in
    cc (both.0, both.1, tail)

key_read : {O F : Type 0} (key : O → List ℤ) (r : Result (Cell O) F) → is_ok r ≡ true → key_of key r ≡ key_at key (output_of r)
key_read key (Ok c) h = refl
key_read key (Err f) h = absurd (true≢false (sym h))

-- A table written is the smallest machine.
module _ {O F : Type 0} (key : O → List ℤ) (m : Meaning O F) (closed : meaning.Closed m) (sound : sound_by m ≡ true) (j : ℕ)
    (done : Settled (mealy_of key m) j) (next' : List ℕ) (outs outs' : List O)
    (nexts : (y : ℕ) → y < block_count (mealy_of key m) j * m.inputs → get_or next' y 0 ≡ next_at (mealy_of key m) j y)
    (written : OutputsWritten m.entry (mealy_of key m) j (block_count (mealy_of key m) j * m.inputs) outs outs') where
  abbrev M' : Mealy
  M' = mealy_of key m

  abbrev T : Mealy
  T = table_mealy key (block_count M' j) m.inputs next' outs'

  closes : Closed M'
  closes = sound_closed key m closed sound

  same_cell : (c i : ℕ) → c < block_count M' j → i < m.inputs
      → ((reduced M' j).next c i ≡ T.next c i) × ((reduced M' j).key c i ≡ T.key c i)
  same_cell c i hc hi =
      let k : ℕ = m.inputs in
      let x : ℕ = c * k + i in
      let low : x < block_count M' j * k = omega (arith, mul-add-lt c k i (block_count M' j) hc hi) in
      let dv : x / k ≡ c = digits_div c hi in
      let md : x % k ≡ i = digits_mod c hi in (
        sym (nexts x low ∙ ap (λ (y : ℕ). (reduced M' j).next y (x % k)) dv ∙ ap (λ (y : ℕ). (reduced M' j).next c y) md),
        key_read key (m.entry (leader_of M' j c) i) (sound_filled m sound (leader_of M' j c) i (leader_of_is M' j c hc).0 hi)
            ∙ sym (ap (key_at key) (written.written x low
            ∙ ap (λ (y : ℕ). output_of (m.entry (leader_of M' j y) (x % k))) dv
            ∙ ap (λ (y : ℕ). output_of (m.entry (leader_of M' j c) y)) md)),
      )

  -- A state that is equivalent to a class of the blocks is equivalent to it in the table.
  moves : (s c : ℕ) → c < block_count M' j → Equivalent M' (reduced M' j) s c → Equivalent M' T s c
  moves s c hc f =
      answers_equivalent M' T s c
      (λ w ok. equivalent_answers M' (reduced M' j) s c f w ok ∙ agree_answers (reduced M' j) T same_cell (reduced_closed M' closes j) c hc w ok)

  pub table_smallest : Smallest M' T
  table_smallest =
      let same = reduced_is_equivalent M' closes j done in
      record {
        closed = λ c i hc hi. subst (λ (x : ℕ). x < block_count M' j) (same_cell c i hc hi).0 (reduced_closed M' closes j c i hc hi);
        equivalent = record {
          same_inputs = refl;
          forth = λ s h. let at = same.forth s h in (at.0, (at.1.0, moves s at.0 at.1.0 at.1.1));
          back = λ c h. let at = same.back c h in (at.0, (at.1.0, moves at.0 c h at.1.1));
        };
        least = λ o _ eq. reduced_is_smallest M' o j eq;
      }

  pub class_equivalent : (s : ℕ) → s < m.states → block M' j s < block_count M' j → Equivalent M' T s (block M' j s)
  class_equivalent s h l = moves s (block M' j s) l (block_equivalent M' closes j done s h)

-- Places of the list of next classes.
pub next_read : (N : Mealy) (j n : ℕ) (rest : List ℕ) (y : ℕ) → y < n
    → get_or (map (next_at N j) (range_with_len 0 n) ++ rest) y 0 ≡ next_at N j y
next_read N j n rest y h =
    get_or_append_left (map (next_at N j) (range_with_len 0 n)) rest 0 y (omega (arith, length-map-range_with_len (next_at N j) 0 n))
    ∙ get_or-map-range_with_len (next_at N j) 0 n y y 0 h (omega arith)
