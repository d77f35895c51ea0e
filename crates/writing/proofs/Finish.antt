-- What chain writing leaves, from what its parts wrote.
use Rattle.std.proofs.Common.{◌≡◌, ℕ, ◌+◌, ◌≤◌, List, [], ◌∷◌, ◌++◌, length, take, drop, sym, refl, ◌∙◌, arith}
use Rattle.std.proofs.lemmas.List.{take_at, take_all}
use Rattle.machine.specs.Meaning.{Meaning}
use Rattle.machine.specs.declared.outputs.Command.{Command}
use Rattle.writing.specs.Bytes.{puts}
use Rattle.writing.specs.Written.{records_before, heads, rows, chain_numbers, written, bytes_needed}
use Rattle.writing.proofs.Counts.{length_heads, length_written}
use Rattle.writing.proofs.Puts.{puts_append, puts_front}

module _ {F : Type 0} (m : Meaning Command F) where
  -- the three parts, one after another
  pub finished : (front hs out x y z : List ℕ) → front ≡ m.states ∷ m.inputs ∷ m.start ∷ records_before m m.states ∷ []
      → hs ≡ heads m m.states
      → x ≡ puts out 0 front → y ≡ puts x 4 hs → z ≡ puts y (4 + m.states) (rows m m.states)
      → bytes_needed m ≤ length out → z ≡ written m ++ drop (bytes_needed m) out
  finished front hs out x y z e h p q r room =
      let n = m.states in
      let at_front : List ℕ = n ∷ m.inputs ∷ m.start ∷ records_before m n ∷ [] in
      let heads_behind = puts_append out 0 4 at_front (heads m n) refl in
      let rows_behind = puts_append out 0 (4 + n) (at_front ++ heads m n) (rows m n) (omega (arith, length_heads m n)) in
      cc (heads_behind, rows_behind, puts_front out (chain_numbers m) (bytes_needed m) (length_written m) room)

  -- the buffer, and its first b bytes, where b are needed
  pub front_is : (z out : List ℕ) (b : ℕ) → b ≡ bytes_needed m → z ≡ written m ++ drop (bytes_needed m) out
      → (z ≡ written m ++ drop b out) × (take b z ≡ written m)
  front_is z out b e f =
      (cc, cc (take_at (written m) (drop (bytes_needed m) out) b (length_written m ∙ sym e)))

  -- a buffer that has just the length needed
  pub all_is : (z out : List ℕ) (b : ℕ) → b ≡ bytes_needed m → length z ≡ b
      → z ≡ written m ++ drop (bytes_needed m) out → z ≡ written m
  all_is z out b e l f = sym (take_all b z (omega arith)) ∙ (front_is z out b e f).1
