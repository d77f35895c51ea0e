-- What is left in a caller's buffer.
use Rattle.std.specs.Prelude.{◌≡◌, ℕ, ◌<◌, List, length, drop}

-- bytes in front where there is room for them, and nothing else changed
pub record Handed (count : ℕ) (before after : List ℕ) : Type 0 where
  pub rest : drop count after ≡ drop count before
  pub short : length before < count → after ≡ before
