-- The first word that tells two states apart, an input at a time.
use Rattle.std.proofs.Common.{◌≡◌, ℕ, suc, ◌+◌, ◌-◌, ◌<◌, ◌≤◌, Bool, true, false, List, [], ◌∷◌, ◌++◌, length, get_or, take, drop, set, ℤ, Option, Some, None, is_ok, Ok, Err, Decides, sym, ap, ap₂, ◌∙◌, subst, arith}
use Rattle.std.proofs.lemmas.Bool.{cond-true, cond-false, true≢false}
use Rattle.std.proofs.lemmas.List.{take_more_set, length_push, length-take-le, take-append-drop, append_assoc}
use Rattle.machine.specs.Meaning as meaning
use Rattle.machine.specs.Meaning.{Meaning, Sizes}
use Rattle.machine.specs.Theory.{next_of, key_of, mealy_of}
use Rattle.machine.specs.declared.Cell.{Cell}
use Rattle.machine.specs.declared.Machine as machines
use Rattle.machine.specs.declared.faults.Fault as faults
use Rattle.machine.specs.declared.outputs.Output as outputs
use Rattle.machine.proofs.Theory.{sound_filled}
use Rattle.mealy.specs.FirstWord.{first_input, first_word}
use Rattle.mealy.specs.Keys.{same_key}
use Rattle.mealy.specs.Mealy.{Mealy}
use Rattle.mealy.specs.Partitions.{share}
use Rattle.mealy.proofs.FirstWord.{first_within, first_next}
use Rattle.rounds.specs.Joining.{some_below}
use Rattle.rounds.specs.Rows.{FirstInput}
use Rattle.rounds.proofs.Firsts.{below_some, below_none}
use Rattle.rounds.proofs.Joining.{alike_is}
use Rattle.sheet.specs.declared.Sheet.{Sheet}
use Rattle.sheet.specs.Standing.{stage_of}
use Rattle.sheet.specs.Steps.{Apart, Spelt}
use Rattle.sheet.proofs.Copying.{rest_more}
use Rattle.sheet.proofs.Keeping.{held}

-- A word that ends with one more place written.
word_ends : (w out before : List ℕ) (p i : ℕ) → p < length out → w ≡ take p out ++ (i ∷ []) → drop p out ≡ drop p before
    → set out p i ≡ w ++ drop (length w) before
word_ends w out before p i l e r =
    let size : p + 1 ≡ length w = sym (ap length e ∙ length_push (take p out) i ∙ ap (λ (x : ℕ). x + 1) (length-take-le p out (omega arith))) in
    sym (take-append-drop (p + 1) (set out p i))
    ∙ ap (λ (x : List ℕ). x ++ drop (p + 1) (set out p i)) (take_more_set out p i l ∙ sym e)
    ∙ ap (λ (x : List ℕ). w ++ x) (rest_more out before p i r)
    ∙ ap (λ (x : ℕ). w ++ drop x before) size

-- A word that goes on after it.
word_goes : (w out v : List ℕ) (p i : ℕ) → p < length out → w ≡ take p out ++ (i ∷ v) → w ≡ take (p + 1) (set out p i) ++ v
word_goes w out v p i l e = e ∙ sym (ap (λ (x : List ℕ). x ++ v) (take_more_set out p i l) ∙ append_assoc (take p out) (i ∷ []) v)

module _ {O F : Type 0} (key : O → List ℤ) (m : Meaning O F) (j s t : ℕ) (before : List ℕ) where
  -- With so many places written, a and b are the states reached, and their word is what is left.
  pub record Spelling (place a b : ℕ) (out : List ℕ) : Type 0 where
    pub left : a < m.states
    pub right : b < m.states
    pub apart : share (mealy_of key m) (j - place) a b ≡ false
    pub word : first_word (mealy_of key m) j s t ≡ take place out ++ first_word (mealy_of key m) (j - place) a b
    pub rest : drop place out ≡ drop place before

-- One more place, on a sheet.
module _ {M O F : Type 0} {g : machines.Ghosts M O F} {o : outputs.Ghosts O} {f : faults.Ghosts F} (x : Sheet M O F g o f)
    (sizes : Sizes (g.means x.machine)) {j s t : ℕ} (pre : Apart (stage_of x) j s t) {before : List ℕ} {place a b : ℕ} {out : List ℕ}
    (so : Spelling o.key (g.means x.machine) j s t before place a b out) (low : place < j) where
  abbrev m : Meaning O F
  m = g.means x.machine

  abbrev N : Mealy
  N = mealy_of o.key m

  abbrev q : ℕ
  q = j - 1 - place

  down : j - place ≡ suc q
  down = omega arith

  part : share N (suc q) a b ≡ false
  part = subst (λ (x : ℕ). share N x a b ≡ false) down so.apart

  asked : (found : Option ℕ) → FirstInput o.key m (get_or x.rows q []) a b found
      → found ≡ some_below m.inputs (first_input N q a b)
  asked found so_found = so_found q pre.sound (held x sizes q (omega (arith, pre.taken))) so.left so.right

  -- Some input sets a and b apart by the partition before.
  pub some_input : FirstInput o.key m (get_or x.rows q []) a b None → ⊥
  some_input none =
      let over : m.inputs ≤ first_input N q a b = below_none _ _ (sym (asked None none)) in
      let inside : first_input N q a b < m.inputs = first_within N q a b part in
      omega arith

  -- The first that does is i.
  module _ (i : ℕ) (found : FirstInput o.key m (get_or x.rows q []) a b (Some i)) where
    first : i ≡ first_input N q a b
    first = (below_some _ _ i (sym (asked (Some i) found))).0

    inside : i < m.inputs
    inside = (below_some _ _ i (sym (asked (Some i) found))).1

    -- No state has a fault there.
    pub filled : (u : ℕ) → u < m.states → (e : F) → m.entry u i ≡ Err e → ⊥
    filled u l e h = true≢false (sym (sound_filled m pre.sound u i l inside) ∙ ap is_ok h)

    -- The cells of both.
    module _ (c d : Cell O) (left : m.entry a i ≡ Ok c) (right : m.entry b i ≡ Ok d) (same : Bool)
        (alike : Decides same (o.key c.output ≡ o.key d.output)) (room : place < length out) where
      tested : same_key (N.key a (first_input N q a b)) (N.key b (first_input N q a b)) ≡ same
      tested =
          subst (λ (y : ℕ). same_key (N.key a y) (N.key b y) ≡ same) first
          (ap₂ same_key (ap (key_of o.key) left) (ap (key_of o.key) right) ∙ sym (alike_is same (o.key c.output) (o.key d.output) alike))

      -- The input and the rest of the word.
      spells : (v : List ℕ) → first_word N (suc q) a b ≡ first_input N q a b ∷ v
          → first_word N j s t ≡ take place out ++ (i ∷ v)
      spells v e = cc (so.word, ap (λ (k : ℕ). first_word N k a b) down, e, first)

      -- Where the outputs are not alike, the word ends.
      pub spelt_ends : same ≡ false → Spelt (stage_of x) j s t before (set out place i)
      spelt_ends differ =
          let e : first_word N (suc q) a b ≡ first_input N q a b ∷ [] =
          ap (λ (v : List ℕ). first_input N q a b ∷ v) (cond-false _ _ _ (tested ∙ differ)) in
          word_ends (first_word N j s t) out before place i room (spells [] e) so.rest

      -- Where they are, it goes on from the next states.
      pub spelt_goes : meaning.Closed m → same ≡ true → Spelling o.key m j s t before (place + 1) c.next d.next (set out place i)
      spelt_goes closed alikes =
          let k : ℕ = first_input N q a b in
          let is = tested ∙ alikes in
          let na : N.next a k ≡ c.next = ap (λ (y : ℕ). N.next a y) (sym first) ∙ ap next_of left in
          let nb : N.next b k ≡ d.next = ap (λ (y : ℕ). N.next b y) (sym first) ∙ ap next_of right in
          let e : first_word N (suc q) a b ≡ k ∷ first_word N q c.next d.next =
          cc (ap (λ (v : List ℕ). k ∷ v) (cond-true _ _ _ is), na, nb) in
          let on : share N q c.next d.next ≡ false = cc (na, nb, first_next N q a b part is) in
          let back : q ≡ j - (place + 1) = omega arith in
          record {
            left = closed a i c left;
            right = closed b i d right;
            apart = subst (λ (y : ℕ). share N y c.next d.next ≡ false) back on;
            word = word_goes (first_word N j s t) out _ place i room (spells _ e) ∙ ap (λ (y : ℕ). take (place + 1) (set out place i) ++ first_word N y c.next d.next) back;
            rest = rest_more out before place i so.rest;
          }
