-- A text in front of a buffer leaves the rest.
use Rattle.std.proofs.Common.{◌≡◌, ℕ, ◌≤◌, List, ◌++◌, length, drop, refl, ap, ◌∙◌, arith}
use Rattle.std.proofs.lemmas.List.{drop_at}
use Rattle.bridge.specs.Handed.{Handed}

pub handed : (text before after : List ℕ) → length text ≤ length before → after ≡ text ++ drop (length text) before
    → Handed (length text) before after
handed text before after fits e =
    record {
      rest = ap (drop (length text)) e ∙ drop_at text (drop (length text) before) (length text) refl;
      short = λ l. absurd (omega arith);
    }
