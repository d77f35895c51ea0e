use Rattle.std.proofs.Common.{◌++◌, drop, sym, ap, ◌∙◌, subst}
use Rattle.writing.specs.Longest.{LongestRuns}
use Rattle.writing.specs.Writes.{Reopens}
use Rattle.writing.specs.Written.{written, bytes_needed}
use Rattle.writing.proofs.Finish.{front_is}
use Rattle.writing.proofs.Trips.{reopens, longest_runs}
use Rattle.writing.proofs.writes.write_chain.Goals as goal

pub returns : goal.returns
returns g c =
    let met = g.met.M.Machine in
    let means = g.M.Machine.means in
    let at = c.args.machine.now in
    let m = means at in
    let planned = c.of-plan.ensures in
    let out = c.args.out.now in
    let sound = c.in_ok-check.ensures.answer in
    let long = c.length-needed.ensures ∙ ap (λ x. bytes_needed (means x)) planned in
    let left = c.put.ensures ∙ ap (λ x. written (means x) ++ drop (bytes_needed (means x)) out) planned in
    let front = front_is m c.put.new.out out c.length-needed.result long left in
    record {
      answer = (sound, long, c.if-out-needed.false);
      buffer = front.0;
      again = subst (Reopens m) (sym front.1) (reopens m sound (met.inside at) (met.closed at));
      runs = subst LongestRuns (sym front.1) (longest_runs m sound);
    }
