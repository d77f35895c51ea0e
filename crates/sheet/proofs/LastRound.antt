-- How many rounds split before one settles.
use Rattle.std.proofs.Common.{◌≡◌, ℕ, suc, ◌+◌, ◌-◌, ◌<◌, ◌≤◌, true, false, Ok, sym, ap, ◌∙◌, arith}
use Rattle.std.proofs.lemmas.Bool.{eq-eqb, ne_eqb, eqb-true, both_ways}
use Rattle.mealy.specs.Mealy.{Mealy}
use Rattle.mealy.specs.Partitions.{block_count, Settled}
use Rattle.mealy.proofs.Below.{by_test, by_order, lowest_is, lowest_le}
use Rattle.mealy.proofs.Rounds.{settled_from, settles_in_time, some_round_settles}
use Rattle.mealy.proofs.Settled.{settled_count}
use Rattle.rounds.proofs.Passes.{lowest_found}
use Rattle.sheet.specs.Kept.{Splits}
use Rattle.sheet.specs.Replies.{settles_in, splits_in_all, round_reply, settle_reply}
use Rattle.sheet.specs.Stage.{Stage, at_round}
use Rattle.sheet.specs.declared.answers.Round.TheVariants as round
use Rattle.sheet.proofs.Answering.{heard, still_open, splits}
use Rattle.sheet.proofs.Keeping.{Known}

-- The test is that the round changes nothing.
pub settles_test : (m : Mealy) (j : ℕ) → Settled m j → settles_in m j ≡ true
settles_test m j done = eq-eqb _ _ (settled_count m j done)

pub test_settles : (m : Mealy) (j : ℕ) → settles_in m j ≡ true → Settled m j
test_settles m j e = settled_from m j (omega (arith, eqb-true (block_count m (suc j)) (block_count m j) e))

-- Where the first r rounds split and the next settles, r split in all.
pub splits_in_all_lem : (m : Mealy) (r : ℕ) → 1 ≤ m.states → Splits m r → Settled m r → splits_in_all m ≡ r
splits_in_all_lem m r some splits done =
    lowest_found m.states (settles_in m) r (settles_in_time m some r splits)
    (λ j l. ne_eqb _ _ (λ e. splits j l (settled_from m j (omega (arith, e))))) (settles_test m r done)

-- A round that answered settled changed nothing.
pub settled_answer : (t : Stage) → t.sound ≡ true → t.settled ≡ false → (n : ℕ)
    → Ok (round.Settled n) ≡ round_reply t → Settled t.machine t.rounds
settled_answer t so fresh n e =
    by_test (settles_in t.machine t.rounds) (test_settles t.machine t.rounds)
    (λ goes_on.
    let splits-on = splits t so fresh (λ done. both_ways _ goes_on (settles_test t.machine t.rounds done)) in
    let z : ◌≡◌ {A = ℕ} 0 1 = cc (e, splits-on) in
    absurd (omega (arith, z)))

-- Rounds that brought a stage to r, of which the last settled.
pub settled_all : (t : Stage) (r : ℕ) → Known (at_round r t) → t.sound ≡ true → t.settled ≡ false → t.rounds ≤ r
    → (n : ℕ) → Ok (round.Settled n) ≡ round_reply (at_round r t) → (count : ℕ) → count ≡ block_count t.machine r
    → Ok (record { rounds = r - t.rounds + 1; count = count }) ≡ settle_reply t
settled_all t r k so fresh up n e count parts =
    let m = t.machine in
    let done = settled_answer (at_round r t) so fresh n e in
    let all : splits_in_all m ≡ r = splits_in_all_lem m r (omega (arith, k.starts so)) (k.splits so) done in
    ap (λ (x : ℕ). Ok (record { rounds = r - t.rounds + 1; count = x })) (parts ∙ ap (block_count m) (sym all))
    ∙ ap (λ (x : ℕ). Ok (record { rounds = x - t.rounds + 1; count = block_count m (splits_in_all m) })) (sym all)
    ∙ still_open t _ fresh ∙ heard t _ so

-- The round that settles is no earlier than those that split, and is there.
pub last_is : (m : Mealy) (r : ℕ) → 1 ≤ m.states → Splits m r
    → (r ≤ splits_in_all m) × (splits_in_all m < m.states) × Settled m (splits_in_all m)
last_is m r some splits-so =
    let is = lowest_is m.states (settles_in m) in
    let there = some_round_settles m some in
    let low = lowest_le m.states (settles_in m) there.0 (settles_test m there.0 there.1.1) in
    let within : splits_in_all m < m.states = omega (arith, there.1.0) in
    let done = test_settles m (splits_in_all m) (is.passes within) in
    (by_order (splits_in_all m) r (λ l. absurd (splits-so (splits_in_all m) l done)) (λ g. g), within, done)
