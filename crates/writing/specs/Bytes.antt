-- 16-bit numbers written into bytes, low byte first.
use Rattle.std.specs.Prelude.{ℕ, ◌+◌, ◌*◌, ◌/◌, ◌%◌, List, [], ◌∷◌, slice_set}

-- the bytes of numbers
abbrev pub bytes_of : List ℕ → List ℕ
bytes_of [] = []
bytes_of (n ∷ ns) = n % 256 ∷ n / 256 ∷ bytes_of ns

-- the bytes with n at place p
abbrev pub put_at : List ℕ → ℕ → ℕ → List ℕ
put_at bs p n = slice_set (slice_set bs (2 * p) (n % 256)) (2 * p + 1) (n / 256)

-- the bytes with numbers from place p on
abbrev pub puts : List ℕ → ℕ → List ℕ → List ℕ
puts bs p [] = bs
puts bs p (n ∷ ns) = puts (put_at bs p n) (p + 1) ns
