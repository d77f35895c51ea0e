-- Numbers written one after another, and read again.
use Rattle.std.proofs.Common.{◌≡◌, ℕ, zero, suc, ◌+◌, ◌*◌, ◌<◌, ◌≤◌, List, [], ◌∷◌, ◌++◌, length, get_or, take, drop, sym, refl, ap, ◌∙◌, arith}
use lib.Seq.{sets, sets-eq}
use Rattle.std.proofs.lemmas.List.{take_more, length-take-le}
use Rattle.forms.specs.Bytes.{number}
use Rattle.writing.specs.Bytes.{bytes_of, put_at, puts}

-- more numbers, behind those that are written
pub puts_append : (bs : List ℕ) (p q : ℕ) (ms ns : List ℕ) → p + length ms ≡ q → puts (puts bs p ms) q ns ≡ puts bs p (ms ++ ns)
puts_append bs p q [] ns e = let f : q ≡ p = omega arith in ap (λ x. puts bs x ns) f
puts_append bs p q (m ∷ ms) ns e = puts_append (put_at bs p m) (p + 1) q ms ns (omega arith)

-- one more number of a list
pub puts_more : (bs : List ℕ) (p i : ℕ) (ns : List ℕ) → i < length ns
    → put_at (puts bs p (take i ns)) (p + i) (get_or ns i 0) ≡ puts bs p (take (i + 1) ns)
puts_more bs p i ns h =
    puts_append bs p (p + i) (take i ns) (get_or ns i 0 ∷ []) (omega (arith, length-take-le i ns (omega arith)))
    ∙ ap (puts bs p) (sym (take_more ns i 0 h))

pub length_bytes : (ns : List ℕ) → length (bytes_of ns) ≡ 2 * length ns
length_bytes [] = refl
length_bytes (n ∷ ns) = let e = length_bytes ns in omega arith

puts_sets : (bs : List ℕ) (p q : ℕ) (ns : List ℕ) → 2 * p ≡ q → puts bs p ns ≡ sets bs q (bytes_of ns)
puts_sets bs p q [] e = refl
puts_sets bs p q (n ∷ ns) e =
    let f : 2 * p + 1 ≡ suc q = omega arith in
    cc (puts_sets (put_at bs p n) (p + 1) (suc (suc q)) ns (omega arith))

-- numbers written from the first place on
pub puts_front : (bs : List ℕ) (ns : List ℕ) (b : ℕ) → length (bytes_of ns) ≡ b → b ≤ length bs
    → puts bs 0 ns ≡ bytes_of ns ++ drop b bs
puts_front bs ns b e h =
    puts_sets bs 0 0 ns refl ∙ (sets-eq (bytes_of ns) bs 0 (omega arith) ∙ ap (λ x. bytes_of ns ++ drop x bs) (omega arith))

-- a number, read from the bytes of numbers
pub number_bytes : (ns : List ℕ) (p : ℕ) → number (bytes_of ns) p ≡ get_or ns p 0
number_bytes [] p = refl
number_bytes (n ∷ ns) zero = omega arith
number_bytes (n ∷ ns) (suc p) =
    let e : 2 * suc p ≡ suc (suc (2 * p)) = omega arith in
    let f : 2 * suc p + 1 ≡ suc (suc (2 * p + 1)) = omega arith in
    cc (number_bytes ns p)
