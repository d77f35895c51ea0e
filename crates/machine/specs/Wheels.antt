-- Wheel moves: offsets in thousandths, compared as the hundredths that the renderer shows.
use Rattle.std.specs.Prelude.{◌≡◌, suc, ◌+◌, ◌/◌, ◌<◌, ◌≤◌, List, [], ◌∷◌, ℤ, pos, negsuc, ◌-ℤ◌, ◌*ℤ◌, neg_ℤ, ◌≤ℤ◌, ◌<ℤ◌, unsigned_abs}

-- an offset over ten to the nearest whole number: its size with halves up, and its sign
abbrev pub hundredths : ℤ → ℤ
hundredths (pos a) = pos ((a + 5) / 10)
hundredths (negsuc a) = neg_ℤ (pos ((suc a + 5) / 10))

-- q is a nearest whole number to a tenth of x, and of two such the one further from zero: no other number is
pub record Nearest (x q : ℤ) : Type 0 where
  pub near : unsigned_abs (pos 10 *ℤ q -ℤ x) ≤ 5
  pub away : unsigned_abs (pos 10 *ℤ q -ℤ x) ≡ 5 → unsigned_abs x < unsigned_abs (pos 10 *ℤ q)

-- a remainder by ten adds one away from zero from a half on
pub record Carried (rest r : ℤ) : Type 0 where
  pub up : pos 5 ≤ℤ rest → r ≡ pos 1
  pub down : rest ≤ℤ negsuc 4 → r ≡ negsuc 0
  pub none : negsuc 4 <ℤ rest → rest <ℤ pos 5 → r ≡ pos 0

-- the key of a wheel move
abbrev pub wheel_key : ℤ → ℤ → ℤ → List ℤ
wheel_key lift gamma gain = hundredths lift ∷ hundredths gamma ∷ hundredths gain ∷ []
