use Rattle.std.proofs.Common.{◌≡◌, ℕ, ◌+◌, ◌-◌, ◌<◌, List, [], ◌∷◌, ◌++◌, map, length, get_or, is_ok, vec_items, sym, refl, ap, ◌∙◌, subst, arith}
use Rattle.std.specs.List.{range_with_len}
use Rattle.std.proofs.lemmas.Slice.{pushed}
use Rattle.mealy.specs.FirstWord.{word_of}
use Rattle.mealy.specs.Mealy.{Mealy}
use Rattle.machine.proofs.Theory.{few_states}
use Rattle.sheet.specs.Replies.{word_reply}
use Rattle.sheet.specs.Stage.{Stage}
use Rattle.sheet.specs.Standing.{stage_of}
use Rattle.reductions.specs.Aparts.{Parting, Told, apart_of, apart_at}
use Rattle.reductions.specs.declared.Apart.{Apart}
use Rattle.reductions.proofs.Settled.{leaders_few, leaders_told}
use Rattle.reductions.proofs.Listed.{aparts_step, aparts_done, above, above_length, above_at}
use Rattle.reductions.proofs.handing.Led.push_aparts.Goals as goal

pub loop-above-init : goal.loop-above-init
loop-above-init g c =
    let m : Mealy = (stage_of c.args.self.now.done.now.sheet).machine in
    let leaders = c.args.self.now.leaders.now in
    let f : ℕ → Parting = apart_at m c.args.self.now.done.now.sheet.rounds leaders c.args.class in
    ap (λ (n : ℕ). map apart_of (vec_items c.args.aparts.now) ++ map f (range_with_len n (length leaders - n))) (omega arith)

pub word-requires : goal.word-requires
word-requires g c =
    let d = c.args.self.now.done.now in
    let t : Stage = stage_of d.sheet in
    let leaders = c.args.self.now.leaders.now in
    let i : ℕ = c.args.class + 1 + c.loop-above.above in
    let told : Told t leaders = subst (Told t) (sym c.args.self.now.lowest) (leaders_told t d.sound (omega (arith, d.sheet.early, d.sheet.few))) in
    let within : i < length leaders = omega (arith, c.loop-above-test.true, above_length leaders c.args.class) in
    record {
      told =
          ap (λ (s : ℕ). is_ok (word_reply t s (get_or (above leaders c.args.class) c.loop-above.above 0) 128)) c.requires.leads
          ∙ ap (λ (s : ℕ). is_ok (word_reply t (get_or leaders c.args.class 0) s 128)) (above_at leaders c.args.class c.loop-above.above)
          ∙ told c.args.class i (omega arith) within;
    }

pub overflow_cast-class : goal.overflow_cast-class
overflow_cast-class g c =
    let d = c.args.self.now in
    let few = leaders_few (stage_of d.done.now.sheet) (few_states (g.M.Machine.means d.done.now.sheet.machine) (g.met.M.Machine.sizes d.done.now.sheet.machine)) d.leaders.now d.lowest in
    omega (arith, c.requires.within, few)

pub overflow_cast-class-in-loop-above : goal.overflow_cast-class-in-loop-above
overflow_cast-class-in-loop-above g c =
    let d = c.args.self.now in
    let few = leaders_few (stage_of d.done.now.sheet) (few_states (g.M.Machine.means d.done.now.sheet.machine) (g.met.M.Machine.sizes d.done.now.sheet.machine)) d.leaders.now d.lowest in
    omega (arith, c.loop-above-test.true, above_length d.leaders.now c.args.class, few)

pub loop-above-preserved : goal.loop-above-preserved
loop-above-preserved g c =
    let m : Mealy = (stage_of c.args.self.now.done.now.sheet).machine in
    let r : ℕ = c.args.self.now.done.now.sheet.rounds in
    let leaders = c.args.self.now.leaders.now in
    let f : ℕ → Parting = apart_at m r leaders c.args.class in
    let i : ℕ = c.args.class + 1 + c.loop-above.above in
    let x : Apart = record { first = c.args.class; second = i; word = c.in_ok-word.word } in
    let old : List Apart = vec_items c.loop-above.aparts in
    let same : old ≡ old = refl in
    let grown = pushed (x ∷ []) same c.in_ok-push.was c.push.ensures.items in
    let within : i < length leaders = omega (arith, c.loop-above-test.true, above_length leaders c.args.class) in
    let next : c.args.class + 1 + (c.loop-above.above + 1) ≡ i + 1 = omega arith in
    let word : vec_items c.in_ok-word.word ≡ word_of m r (get_or leaders c.args.class 0) (get_or leaders i 0) =
    c.in_ok-word.ensures
    ∙ ap (λ (s : ℕ). word_of m r s (get_or (above leaders c.args.class) c.loop-above.above 0)) c.requires.leads
    ∙ ap (word_of m r (get_or leaders c.args.class 0)) (above_at leaders c.args.class c.loop-above.above) in
    ap (λ (v : List Apart). map apart_of v ++ map f (range_with_len (c.args.class + 1 + (c.loop-above.above + 1)) (length leaders - (c.args.class + 1 + (c.loop-above.above + 1))))) grown
    ∙ ap (λ (n : ℕ). map apart_of (old ++ (x ∷ [])) ++ map f (range_with_len n (length leaders - n))) next
    ∙ aparts_step apart_of f old x i (length leaders) within
    (ap (λ (w : List ℕ). record { first = c.args.class; second = i; word = w }) word)
    ∙ c.loop-above.invariant

pub returns : goal.returns
returns g c =
    let m : Mealy = (stage_of c.args.self.now.done.now.sheet).machine in
    let leaders = c.args.self.now.leaders.now in
    let f : ℕ → Parting = apart_at m c.args.self.now.done.now.sheet.rounds leaders c.args.class in
    let i : ℕ = c.args.class + 1 + c.loop-above.above in
    sym (aparts_done apart_of f (vec_items c.loop-above.aparts) i (length leaders) (omega (arith, c.loop-above-test.false, above_length leaders c.args.class)))
    ∙ c.loop-above.invariant
