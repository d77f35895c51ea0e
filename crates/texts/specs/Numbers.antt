-- Numbers in a line.
use Rattle.std.specs.Prelude.{ℕ, List, [], ◌∷◌, ◌++◌, codes, decimal}

-- a number in decimal, after a space
abbrev pub spaced : ℕ → List ℕ
spaced n = codes " " ++ decimal n

-- numbers in decimal, each after a space
abbrev pub numbers_text : List ℕ → List ℕ
numbers_text [] = []
numbers_text (n ∷ ns) = codes " " ++ (decimal n ++ numbers_text ns)
