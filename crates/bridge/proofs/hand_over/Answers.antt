use Rattle.std.proofs.Common.{ℕ, List, ◌++◌, length, drop, ap, arith}
use Rattle.bridge.proofs.Handing.{handed}
use Rattle.bridge.proofs.hand_over.Goals as goal

pub returns-then-count-out-clause-rest : goal.returns-then-count-out-clause-rest
returns-then-count-out-clause-rest c =
    let bytes = c.args.bytes.now in
    handed bytes c.args.out.now _ (omega arith)
    (ap (λ (front : List ℕ). front ++ drop (length bytes) c.args.out.now) (c.copy_from_slice.ensures.after))
