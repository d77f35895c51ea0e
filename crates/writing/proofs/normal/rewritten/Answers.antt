use Rattle.std.proofs.Common.{◌≡◌, ◌++◌, length, drop, vec_items, sym, ap, ◌∙◌, subst, arith}
use Rattle.std.proofs.lemmas.List.{with_items_is}
use Rattle.std.specs.Vec.{with_items}
use Rattle.forms.specs.Forms.{chain_of}
use Rattle.forms.specs.Walks.{chain_closed}
use Rattle.writing.specs.Longest.{LongestRuns}
use Rattle.writing.specs.Writes.{Reopens}
use Rattle.writing.specs.Written.{written, bytes_needed}
use Rattle.writing.proofs.Finish.{all_is}
use Rattle.writing.proofs.Trips.{chain_inside, reopens, longest_runs}
use Rattle.writing.proofs.normal.rewritten.Goals as goal

pub returns : goal.returns
returns c =
    let bs = vec_items c.args.chain.now.bytes in
    let m = chain_of c.args.chain.now in
    let planned = c.of-plan.ensures in
    let sound = c.in_ok-check.ensures.answer in
    let old = c.deref_mut.result.now in
    let out = c.put.new.out in
    let long = c.length.ensures ∙ ap (λ x. bytes_needed (chain_of x)) planned in
    let put = c.put.ensures ∙ ap (λ x. written (chain_of x) ++ drop (bytes_needed (chain_of x)) old) planned in
    let len : length out ≡ c.in_ok-out.out.len = omega (arith, c.put.auto.out, c.deref_mut.ensures.len) in
    let left : vec_items (with_items c.in_ok-out.out out) ≡ written m =
    with_items_is c.in_ok-out.out out len ∙ all_is m out old c.length.result long (len ∙ c.in_ok-out.ensures.1) put in
    record {
      answer = (sound, left);
      again = subst (Reopens m) (sym left) (reopens m sound (chain_inside bs) (chain_closed bs));
      runs = subst LongestRuns (sym left) (longest_runs m sound);
    }
