-- What a mode shows is what the machine of the blocks answers, so the word of two modes tells them apart there too.
use Rattle.std.proofs.Common.{◌≡◌, ℕ, ◌+◌, ◌*◌, ◌%◌, ◌<◌, true, List, [], ◌∷◌, map, get_or, ℤ, pos, is_ok, Ok, Err, Result, sym, refl, ap, ◌∙◌, inl, arith}
use lib.Arith.{digits_div, digits_mod}
use Rattle.std.proofs.lemmas.Nat.{mul-add-lt}
use Rattle.std.proofs.lemmas.List.FromFn.{get_or-map-range_with_len}
use Rattle.std.proofs.lemmas.Bool.{true≢false}
use Rattle.machine.specs.Meaning as meaning
use Rattle.machine.specs.Meaning.{Meaning, Sound}
use Rattle.machine.specs.Theory.{key_of, mealy_of, sound_by}
use Rattle.machine.specs.declared.Cell.{Cell}
use Rattle.machine.specs.declared.faults.StoredFault.{StoredFault}
use Rattle.machine.specs.declared.outputs.Command.{Command}
use Rattle.machine.proofs.Theory.{sound_closed, sound_decides}
use Rattle.mealy.specs.Mealy.{Mealy, Closed}
use Rattle.mealy.specs.Partitions.{block, block_count, Settled}
use Rattle.mealy.specs.Reduced.{leader_of, reduced}
use Rattle.mealy.specs.Words.{Word, answer}
use Rattle.mealy.proofs.Reduced.{leader_of_is, reduced_closed, block_equivalent}
use Rattle.mealy.proofs.Telling.{equivalent_answers, tells_differ}
use Rattle.listings.specs.Lists.{Lists, command_key, number_at, lists_of}
use Rattle.reductions.specs.Reductions.{leaders_of, output_at, settled_stage}
use Rattle.reductions.proofs.Settled.{leaders_shortest}
use Rattle.sheet.specs.Replies.{splits_in_all}
use Rattle.sheet.specs.Stage.{Stage}
use Rattle.sheet.specs.Tables.{cell_count, next_at, output_of}
use Rattle.sheet.proofs.LastRound.{last_is}
use Rattle.views.specs.Cards.{shows}
use Rattle.views.specs.Telling.{CardTellsModes, line_for}

-- A number as the key of a command.
abbrev keyed : ℕ → List ℤ
keyed n = pos n ∷ []

key_read : {F : Type 0} (r : Result (Cell Command) F) → is_ok r ≡ true → key_of command_key r ≡ keyed (number_at (output_of r))
key_read (Ok c) h = refl
key_read (Err f) h = absurd (true≢false (sym h))

module _ (m : Meaning Command StoredFault) (sound : Sound m) (closed : meaning.Closed m) where
  abbrev N : Mealy
  N = mealy_of command_key m

  abbrev r : ℕ
  r = splits_in_all N

  abbrev R : Mealy
  R = reduced N r

  abbrev l : Lists
  l = lists_of m

  so : sound_by m ≡ true
  so = (sound_decides m (inl sound.fits)).1 sound

  closes : Closed N
  closes = sound_closed command_key m closed so

  done : Settled N r
  done = (last_is N 0 sound.fits.some_states (λ j h. absurd (omega arith))).2

  -- The cell of a class at an input, by its place.
  module _ (c i : ℕ) (hc : c < block_count N r) (hi : i < m.inputs) where
    abbrev x : ℕ
    x = c * m.inputs + i

    low : x < cell_count (settled_stage command_key m)
    low = omega (arith, mul-add-lt c m.inputs i (block_count N r) hc hi)

    next_at_lem : get_or l.next x 0 ≡ R.next c i
    next_at_lem =
        get_or-map-range_with_len (next_at N r) 0 (cell_count (settled_stage command_key m)) x x 0 low (omega arith)
        ∙ ap (λ (y : ℕ). R.next y (x % m.inputs)) (digits_div c hi) ∙ ap (R.next c) (digits_mod c hi)

    key_at_lem : R.key c i ≡ keyed (get_or l.outputs x 0)
    key_at_lem =
        key_read (m.entry (leader_of N r c) i) (sound.filled (leader_of N r c) i (leader_of_is N r c hc).0 hi)
        ∙ ap keyed (sym (
        get_or-map-range_with_len (λ y. number_at (output_at m.entry (settled_stage command_key m) y)) 0 (cell_count (settled_stage command_key m)) x x 0 low (omega arith)
        ∙ ap (λ (y : ℕ). number_at (output_of (m.entry (leader_of N r y) (x % m.inputs)))) (digits_div c hi)
        ∙ ap (λ (y : ℕ). number_at (output_of (m.entry (leader_of N r c) y))) (digits_mod c hi)))

  -- What a mode shows is what its class answers.
  shown : (c : ℕ) → c < block_count N r → (w : List ℕ) → Word m.inputs w → answer R c w ≡ map keyed (shows l c w)
  shown c hc [] ok = refl
  shown c hc (i ∷ w) ok =
      let next = next_at_lem c i hc ok.0 in
      let key = key_at_lem c i hc ok.0 in
      let rest = shown (R.next c i) (reduced_closed N closes r c i hc ok.0) w ok.1 in
      ap (λ (k : List ℤ). k ∷ answer R (R.next c i) w) key
      ∙ ap (λ (t : List (List ℤ)). keyed (get_or l.outputs (c * m.inputs + i) 0) ∷ t)
      (rest ∙ ap (λ (y : ℕ). map keyed (shows l y w)) (sym next))

  -- The lowest state of a class answers as the class does.
  leads : (c : ℕ) → c < block_count N r → (w : List ℕ) → Word m.inputs w → answer N (leader_of N r c) w ≡ answer R c w
  leads c hc w ok =
      let is = leader_of_is N r c hc in
      equivalent_answers N R (leader_of N r c) (block N r (leader_of N r c)) (block_equivalent N closes r done (leader_of N r c) is.0) w ok
      ∙ ap (λ (y : ℕ). answer R y w) is.1

pub card_tells_modes : CardTellsModes
card_tells_modes m sound closed a b h n same =
    let t : Stage = settled_stage command_key m in
    let N : Mealy = t.machine in
    let r : ℕ = t.rounds in
    let w = (line_for m a b).word in
    let ha : a < block_count N r = omega arith in
    let led = λ (c : ℕ) (hc : c < block_count N r). get_or-map-range_with_len (leader_of N r) 0 (block_count N r) c c 0 hc (omega arith) in
    let tells = (leaders_shortest t a b h n).0 in
    let ok = tells.word in
    let runs : (c : ℕ) → c < block_count N r → answer N (get_or (leaders_of t) c 0) w ≡ map keyed (shows (lists_of m) c w) = λ c hc.
    ap (λ (y : ℕ). answer N y w) (led c hc) ∙ leads m sound closed c hc w ok ∙ shown m sound closed c hc w ok in
    tells_differ N N (get_or (leaders_of t) a 0) (get_or (leaders_of t) b 0) w tells (runs a ha ∙ ap (map keyed) same ∙ sym (runs b n))
