use Rattle.std.proofs.Common.{◌≡◌, ℕ, List, Ok, length, take, vec_items, sym, ap, ◌∙◌, subst, arith}
use Rattle.std.proofs.lemmas.List.{with_items_is}
use Rattle.std.proofs.lemmas.Result.{IfOk-at_ok, IfOk-weaker}
use Rattle.forms.specs.Chains.{chain_opening}
use Rattle.forms.specs.Forms.{chain_of}
use Rattle.forms.specs.declared.Chain.{Chain}
use Rattle.machine.specs.Meaning.{Meaning}
use Rattle.machine.specs.declared.faults.StoredFault.{StoredFault}
use Rattle.machine.specs.declared.outputs.Command.{Command}
use Rattle.writing.specs.Writes.{Reopens, SameMachine}
use Rattle.bench.specs.Tables.{measured}
use Rattle.bench.proofs.Again.{same_again}
use Rattle.bench.proofs.Mapped.{ok_before}
use Rattle.bench.proofs.machines.Measured.chain.Goals as goal

pub returns : goal.returns
returns c =
    let m = measured c.args.self.case c.args.self.states c.args.self.inputs in
    let n = c.in_ok-needed.needed in
    let out = c.write_chain.new.out in
    let len : length out ≡ c.in_ok-bytes.bytes.len = omega (arith, c.write_chain.auto.out, c.deref_mut.ensures.len) in
    let left : vec_items c.truncate.new.self ≡ take n out = c.truncate.ensures.items ∙ ap (take n) (with_items_is c.in_ok-bytes.bytes out len) in
    let written = ok_before c.write_chain.result c.map_err.result n _ c.map_err.ensures.cases c.in_ok-needed.was in
    let again : Reopens m (take n out) = subst (λ (x : Meaning Command StoredFault). Reopens x (take n out)) c.in_ok-grid.ensures
    (IfOk-at_ok _ written c.write_chain.ensures.again) in
    let reopens : Reopens m (vec_items c.truncate.new.self) = subst (λ (bs : List ℕ). Reopens m bs) (sym left) again in
    IfOk-weaker c.open_chain.result (λ (x : Chain). chain_opening (vec_items c.truncate.new.self) ≡ Ok (chain_of x)) (λ (x : Chain). SameMachine m (chain_of x))
    (λ x. same_again m (chain_of x) (vec_items c.truncate.new.self) reopens) c.open_chain.ensures
