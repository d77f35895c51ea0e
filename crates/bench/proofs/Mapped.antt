-- A result, and the same with another error.
use Rattle.std.proofs.Common.{◌≡◌, Ok, Err, Result, ap, subst}
use Rattle.std.specs.Result.{IsErrAnd, MatchResult}

pub ok_before : {T E D : Type 0} (r : Result T E) (q : Result T D) (x : T) (Q : E → D → Type 0)
    → MatchResult r (λ y. q ≡ Ok y) (λ e. IsErrAnd q (Q e)) → q ≡ Ok x → r ≡ Ok x
ok_before (Ok y) q x Q m e =
    let same : y ≡ x = cc (m, e) in
    ap Ok same
ok_before (Err d) q x Q m e = absurd (subst (λ u. IsErrAnd u (Q d)) e m)
