use Rattle.std.proofs.Common.{◌≡◌, ℕ, ◌<◌, [], ◌∷◌, ◌++◌, map, sym, ap, ◌∙◌, arith}
use Rattle.std.specs.List.{range_with_len}
use Rattle.std.proofs.lemmas.List.FromFn.{map-range_with_len_more}
use Rattle.std.proofs.lemmas.Option.{none-some}
use Rattle.std.proofs.lemmas.Slice.{pushed}
use Rattle.machine.proofs.Theory.{few_states}
use Rattle.mealy.specs.Mealy.{Mealy}
use Rattle.mealy.specs.Partitions.{block_count}
use Rattle.mealy.specs.Reduced.{leader_of}
use Rattle.mealy.proofs.Reduced.{leader_of_is}
use Rattle.sheet.specs.Standing.{stage_of}
use Rattle.reductions.proofs.Settled.{first_is, first_at}
use Rattle.reductions.proofs.handing.Done.leaders.Goals as goal

pub unreachable-requires : goal.unreachable-requires
unreachable-requires g c =
    let d = c.args.self.now in
    let m : Mealy = (stage_of d.sheet).machine in
    let low : c.loop-class.class < block_count m d.sheet.rounds = omega (arith, c.loop-class-test.true, d.classes) in
    none-some _ (sym c.in_default.is ∙ c.first_in.ensures ∙ first_is m d.sheet.rounds c.args.map.now c.requires.map c.loop-class.class low)

pub overflow_cast-leader : goal.overflow_cast-leader
overflow_cast-leader g c =
    let d = c.args.self.now in
    let m : Mealy = (stage_of d.sheet).machine in
    let low : c.loop-class.class < block_count m d.sheet.rounds = omega (arith, c.loop-class-test.true, d.classes) in
    let is = first_at m d.sheet.rounds c.args.map.now c.requires.map c.loop-class.class low c.in-Some.leader (sym c.in-Some.is ∙ c.first_in.ensures) in
    omega (arith, is, (leader_of_is m d.sheet.rounds c.loop-class.class low).0, few_states (g.M.Machine.means d.sheet.machine) (g.met.M.Machine.sizes d.sheet.machine))

pub loop-class-preserved : goal.loop-class-preserved
loop-class-preserved g c =
    let d = c.args.self.now in
    let m : Mealy = (stage_of d.sheet).machine in
    let i = c.loop-class.class in
    let low : i < block_count m d.sheet.rounds = omega (arith, c.loop-class-test.true, d.classes) in
    let is = first_at m d.sheet.rounds c.args.map.now c.requires.map i low c.in-Some.leader (sym c.in-Some.is ∙ c.first_in.ensures) in
    let f : ℕ → ℕ = leader_of m d.sheet.rounds in
    pushed (c.in-Some.leader ∷ []) c.loop-class.invariant c.in_ok-push.was c.push.ensures.items
    ∙ ap (λ (x : ℕ). map f (range_with_len 0 i) ++ (x ∷ [])) is
    ∙ sym (map-range_with_len_more f 0 i i (omega arith))

pub returns : goal.returns
returns g c =
    let d = c.args.self.now in
    let m : Mealy = (stage_of d.sheet).machine in
    let all : c.loop-class.class ≡ block_count m d.sheet.rounds = omega (arith, d.classes) in
    c.loop-class.invariant ∙ ap (λ (n : ℕ). map (leader_of m d.sheet.rounds) (range_with_len 0 n)) all
