use Rattle.std.proofs.Common.{◌<◌, ◌≤◌, ◌*◌, rules, arith}
use Rattle.std.proofs.lemmas.Bool.Decides.{nat_tests}
use Rattle.std.proofs.lemmas.Nat.{mul-add-lt}
use Rattle.layers.proofs.trains.TrainMachine.entry.Goals as goal

-- the next state is one of the layer's
pub overflow_add-result : goal.overflow_add-result
overflow_add-result g c =
    let states = (g.L.Machine.means c.args.self.now.lower).states in
    let size = c.states-size.result in
    let lower : c.in_ok-lower.lower.next < states = search rules in
    let upper : c.in_ok-upper.upper.next < size = search rules in
    let few : states * size ≤ 128 = search (rules, nat_tests) in
    omega (arith, mul-add-lt c.in_ok-lower.lower.next size c.in_ok-upper.upper.next states lower upper)
