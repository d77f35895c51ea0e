use Rattle.std.proofs.Common.{ℕ, ◌+◌, ◌-◌, List, ◌++◌, map, length, vec_items, sym, ap, ◌∙◌, arith}
use Rattle.std.specs.List.{range_with_len}
use Rattle.std.proofs.lemmas.Result.{IfOk-from_err}
use Rattle.mealy.specs.Mealy.{Mealy}
use Rattle.sheet.specs.Standing.{stage_of}
use Rattle.texts.specs.Each.{each}
use Rattle.texts.proofs.Pieces.{each_next, each_end}
use Rattle.reductions.specs.Aparts.{Parting, apart_of, aparts_above}
use Rattle.reductions.specs.declared.Apart.{Apart}
use Rattle.reductions.proofs.handing.Led.aparts.Goals as goal

pub loop-class-init : goal.loop-class-init
loop-class-init g c =
    let d = c.args.self.now.done.now in
    let m : Mealy = (stage_of d.sheet).machine in
    let leaders = c.args.self.now.leaders.now in
    let f : ℕ → List Parting = aparts_above m d.sheet.rounds leaders in
    ap (λ (v : List Apart). map apart_of v ++ each f (range_with_len 0 (length leaders - 0))) c.new-aparts.ensures.items
    ∙ ap (λ (n : ℕ). each f (range_with_len 0 n)) (omega arith)

pub returns-in_err-push_aparts : goal.returns-in_err-push_aparts
returns-in_err-push_aparts g c = IfOk-from_err _ _ c.from_residual.ensures.0

pub loop-class-preserved : goal.loop-class-preserved
loop-class-preserved g c =
    let d = c.args.self.now.done.now in
    let m : Mealy = (stage_of d.sheet).machine in
    let leaders = c.args.self.now.leaders.now in
    let f : ℕ → List Parting = aparts_above m d.sheet.rounds leaders in
    let i = c.loop-class.class in
    ap (λ (v : List Parting). v ++ each f (range_with_len (0 + (i + 1)) (length leaders - (i + 1)))) c.in_ok-push_aparts.ensures
    ∙ each_next f (map apart_of (vec_items c.loop-class.aparts)) 0 (length leaders) i i c.loop-class-test.true (omega arith)
    ∙ c.loop-class.invariant

pub returns : goal.returns
returns g c =
    let d = c.args.self.now.done.now in
    let m : Mealy = (stage_of d.sheet).machine in
    let leaders = c.args.self.now.leaders.now in
    let f : ℕ → List Parting = aparts_above m d.sheet.rounds leaders in
    sym (each_end f (map apart_of (vec_items c.loop-class.aparts)) 0 (length leaders) c.loop-class.class (omega arith))
    ∙ c.loop-class.invariant
