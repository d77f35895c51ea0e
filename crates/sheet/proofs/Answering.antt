-- Which way a reply goes.
use Rattle.std.proofs.Common.{◌≡◌, ℕ, suc, ◌<◌, ◌≤◌, Bool, true, false, cond, ◌&&◌, ltb, leb, Some, None, Ok, Err, Option, IfSome, Result, refl, sym, ap, ◌∙◌, arith}
use Rattle.std.specs.Option.{ok_or}
use Rattle.std.proofs.lemmas.Bool.{cond-true, cond-false, cond_both, and_parts, and_from, lt-ltb, le-ltb, le-leb, leb-true, ltb-true, eq-eqb, ne_eqb}
use Rattle.mealy.specs.Partitions.{block_count, parted, Settled}
use Rattle.mealy.proofs.Below.{by_test}
use Rattle.mealy.proofs.Rounds.{settled_from}
use Rattle.mealy.proofs.Settled.{settled_count}
use Rattle.sheet.specs.declared.answers.Pair.TheVariants as pairs
use Rattle.sheet.specs.declared.answers.Refusal.{Refusal}
use Rattle.sheet.specs.declared.answers.Refusal.TheVariants as refusal
use Rattle.sheet.specs.declared.answers.Round.TheVariants as round
use Rattle.sheet.specs.Replies.{when_sound, when_open, when_states, when_room, settles_in, round_reply, if_taken, parted_in, told, pair_at, word_at}
use Rattle.sheet.specs.declared.answers.TableBuffer.TheVariants as buffer
use Rattle.sheet.specs.Stage.{Stage, if_ok}
use Rattle.sheet.specs.Tables.{cell_count, table_of, table_when}

-- What a test refuses of one answer it refuses of every other,
module _ {A B : Type 0} (x : Result A Refusal) (y : Result B Refusal) (e r : Refusal) (same : Err e ≡ x → Err e ≡ y) where
  shut_if : (b : Bool) → Err e ≡ cond b (Err r) x → Err e ≡ cond b (Err r) y
  shut_if true h = cc h
  shut_if false h = same h

  shut_unless : (b : Bool) → Err e ≡ cond b x (Err r) → Err e ≡ cond b y (Err r)
  shut_unless true h = same h
  shut_unless false h = cc h

-- and what it lets through has passed it.
module _ {A : Type 0} (x : Result A Refusal) (z : A) (r : Refusal) where
  pass_if : (b : Bool) → Ok z ≡ cond b (Err r) x → (b ≡ false) × (Ok z ≡ x)
  pass_if true h = absurd (cc h)
  pass_if false h = (refl, h)

  pass_unless : (b : Bool) → Ok z ≡ cond b x (Err r) → (b ≡ true) × (Ok z ≡ x)
  pass_unless true h = (refl, h)
  pass_unless false h = absurd (cc h)

module _ {A B : Type 0} (t : Stage) (y : A) (x : Result B Refusal) (e : Refusal) where
  answered : Err e ≡ Ok y → Err e ≡ x
  answered h = absurd (cc h)

  -- A call is refused as any on a sheet, as one that takes rounds, or as one on two states,
  pub unsound : Err e ≡ when_sound t (Ok y) → Err e ≡ when_sound t x
  unsound = shut_unless _ _ e _ answered t.sound

  pub closed : Err e ≡ when_sound t (when_open t (Ok y)) → Err e ≡ when_sound t (when_open t x)
  closed = shut_unless _ _ e _ (shut_if _ _ e _ answered t.settled) t.sound

  pub no_states : (s u : ℕ) → Err e ≡ when_sound t (when_states t s u (Ok y)) → Err e ≡ when_sound t (when_states t s u x)
  no_states s u = shut_unless _ _ e _ (shut_unless _ _ e _ answered (ltb s t.machine.states && ltb u t.machine.states)) t.sound

module _ {A : Type 0} (t : Stage) (y z : A) where
  -- and none is let through without cause.
  pub sound_so : Ok z ≡ when_sound t (Ok y) → t.sound ≡ true
  sound_so h = (pass_unless (Ok y) z _ t.sound h).0

  pub open_so : Ok z ≡ when_sound t (when_open t (Ok y)) → (t.sound ≡ true) × (t.settled ≡ false)
  open_so h = let is = pass_unless _ z _ t.sound h in (is.0, (pass_if (Ok y) z _ t.settled is.1).0)

  pub states_so : (s u : ℕ) → Ok z ≡ when_sound t (when_states t s u (Ok y))
      → (t.sound ≡ true) × (s < t.machine.states) × (u < t.machine.states) × (z ≡ y)
  states_so s u h =
      let n : ℕ = t.machine.states in
      let is = pass_unless _ z _ t.sound h in
      let both = pass_unless (Ok y) z _ (ltb s n && ltb u n) is.1 in
      let each = and_parts (ltb s n) (ltb u n) both.0 in
      (is.0, ltb-true s n each.0, ltb-true u n each.1, cc both.1)

module _ {A : Type 0} (t : Stage) (x : Result A Refusal) where
  -- A sound machine is heard.
  pub heard : t.sound ≡ true → x ≡ when_sound t x
  heard e = sym (cond-true t.sound x (Err refusal.Unsound) e)

  -- A sheet that is not settled takes a round.
  pub still_open : t.settled ≡ false → x ≡ when_open t x
  still_open e = sym (cond-false t.settled (Err refusal.AlreadySettled) x e)

  -- Two numbers are states, or one is not.
  pub others : (s u : ℕ) → ((s < t.machine.states) × (u < t.machine.states) → ⊥)
      → Err refusal.NoSuchState ≡ when_states t s u x
  others s u not-both =
      let n : ℕ = t.machine.states in
      sym (cond-false (ltb s n && ltb u n) x (Err refusal.NoSuchState)
      (by_test (ltb s n && ltb u n)
      (λ e. let both = and_parts (ltb s n) (ltb u n) e in absurd (not-both (ltb-true s n both.0, ltb-true u n both.1)))
      (λ e. e)))

  pub states : (s u : ℕ) → s < t.machine.states → u < t.machine.states → x ≡ when_states t s u x
  states s u ls lu =
      sym (cond-true (ltb s t.machine.states && ltb u t.machine.states) x (Err refusal.NoSuchState)
      (and_from _ _ (lt-ltb s _ ls) (lt-ltb u _ lu)))

module _ {A : Type 0} (size n : ℕ) (x : Result A Refusal) where
  -- A buffer is too short, or has room.
  pub short : size < n → Err (refusal.Short n) ≡ when_room size n x
  short l = sym (cond-true (ltb size n) (Err (refusal.Short n)) x (lt-ltb size n l))

  pub room : n ≤ size → x ≡ when_room size n x
  room l = sym (cond-false (ltb size n) (Err (refusal.Short n)) x (le-ltb size n l))

module _ (t : Stage) (so : t.sound ≡ true) (fresh : t.settled ≡ false) where
  -- A round that makes no more blocks settles,
  pub settles : Settled t.machine t.rounds → Ok (round.Settled (block_count t.machine t.rounds)) ≡ round_reply t
  settles done =
      let m = t.machine in
      sym (cond-true (settles_in m t.rounds) _ (Ok (round.Split (block_count m (suc t.rounds)))) (eq-eqb _ _ (settled_count m t.rounds done)))
      ∙ still_open t _ fresh ∙ heard t _ so

  -- and one that makes more splits.
  pub splits : (Settled t.machine t.rounds → ⊥) → Ok (round.Split (block_count t.machine (suc t.rounds))) ≡ round_reply t
  splits goes_on =
      let m = t.machine in
      sym (cond-false (settles_in m t.rounds) (Ok (round.Settled (block_count m t.rounds))) _ (ne_eqb _ _ (λ e. goes_on (settled_from m t.rounds (omega (arith, e))))))
      ∙ still_open t _ fresh ∙ heard t _ so

-- What is answered past both tests of a call on two states is its reply.
pub through : {A B : Type 0} (t : Stage) (s u : ℕ) (y z : A) → Ok z ≡ when_sound t (when_states t s u (Ok y))
    → (x : Result B Refusal) → x ≡ when_sound t (when_states t s u x)
through t s u y z h x = let is = states_so t y z s u h in states t x s u is.1 is.2 ∙ heard t _ is.0

-- What `ok_or` says of an option.
pub some_so : (o : Option ℕ) (e : Refusal) (j : ℕ) → Ok j ≡ ok_or o e → Some j ≡ o
some_so (Some x) e j h = cc h
some_so None e j h = absurd (cc h)

pub none_so : (o : Option ℕ) (e f : Refusal) → Err f ≡ ok_or o e → (None ≡ o) × (f ≡ e)
none_so (Some x) e f h = absurd (cc h)
none_so None e f h = (cc, cc h)

-- Two states that have parted by round r, or have not.
pub taken_is : (r j x : ℕ) → Some x ≡ if_taken r j → (x ≡ j) × (j ≤ r)
taken_is r j x h =
    by_test (leb j r) (λ e. (cc (h, cond-true (leb j r) (Some j) None e), leb-true j r e)) (λ e. absurd (cc (h, cond-false (leb j r) (Some j) None e)))

pub few_taken : (r j n : ℕ) → r < n → IfSome (if_taken r j) (λ x. x < n)
few_taken r j n l = cond_both (leb j r) (Some j) None (λ x. IfSome x (λ y. y < n)) (λ e. omega (arith, leb-true j r e)) (λ _. tt)

told_by : (b done : Bool) (j : ℕ) → told (cond b (Some j) None) done ≡ cond b (pairs.Apart j) (cond done pairs.Equivalent pairs.Together)
told_by true done j = refl
told_by false done j = refl

pub told_is : (t : Stage) (s u : ℕ) → told (parted_in t s u) t.settled ≡ pair_at t.rounds t.settled (parted t.machine t.rounds s u)
told_is t s u = let j = parted t.machine t.rounds s u in told_by (leb j t.rounds) t.settled j

-- A word of two states that have parted needs room, and one of two that have not is refused.
word_by : (b : Bool) (size j x : ℕ) → Some x ≡ cond b (Some j) None → when_room size x (Ok x) ≡ cond b (when_room size j (Ok j)) (Err refusal.NotApart)
word_by true size j x h = cc h
word_by false size j x h = absurd (cc h)

none_by : (b : Bool) (j : ℕ) (x y : Result ℕ Refusal) → None ≡ cond b (Some j) None → y ≡ cond b x y
none_by true j x y h = absurd (cc h)
none_by false j x y h = cc

pub word_taken : (r size j x : ℕ) → Some x ≡ if_taken r j → when_room size x (Ok x) ≡ word_at r size j
word_taken r size j = word_by (leb j r) size j

pub not_apart_at : (r size j : ℕ) → None ≡ if_taken r j → Err refusal.NotApart ≡ word_at r size j
not_apart_at r size j = none_by (leb j r) j _ _

-- A table of a settled sheet: the first buffer is too short, the second is, or it is handed out.
module _ (t : Stage) (done : t.settled ≡ true) (nexts outs : ℕ) where
  pub next_short : nexts < cell_count t → Err (refusal.ShortTable buffer.Next) ≡ table_when t nexts outs
  next_short l = sym (cond-true _ _ _ done ∙ cond-true _ _ _ (lt-ltb nexts (cell_count t) l))

  pub outputs_short : cell_count t ≤ nexts → outs < cell_count t → Err (refusal.ShortTable buffer.Outputs) ≡ table_when t nexts outs
  outputs_short l b = sym (cond-true _ _ _ done ∙ cond-false _ _ _ (le-ltb nexts (cell_count t) l) ∙ cond-true _ _ _ (lt-ltb outs (cell_count t) b))

  pub tabled : cell_count t ≤ nexts → cell_count t ≤ outs → Ok (table_of t) ≡ table_when t nexts outs
  tabled l b = sym (cond-true _ _ _ done ∙ cond-false _ _ _ (le-ltb nexts (cell_count t) l) ∙ cond-false _ _ _ (le-ltb outs (cell_count t) b))

-- A refusal leaves a buffer as it was.
pub leaves : {A E X : Type 0} (e : E) (r : Result A E) (x y : X) → Err e ≡ r → y ≡ if_ok r x y
leaves e r x y q = ap (λ z. if_ok z x y) q

-- Two states that have parted by round r, and the length of their word where there is room for it.
pub apart_at_lem : (r j : ℕ) (done : Bool) → j ≤ r → pairs.Apart j ≡ pair_at r done j
apart_at_lem r j done l = sym (cond-true _ _ _ (le-leb j r l))

pub word_at_lem : (r size j : ℕ) → j ≤ r → j ≤ size → Ok j ≡ word_at r size j
word_at_lem r size j l b = sym (cond-false (ltb size j) (Err (refusal.Short j)) (Ok j) (le-ltb size j b)) ∙ sym (cond-true _ _ _ (le-leb j r l))
