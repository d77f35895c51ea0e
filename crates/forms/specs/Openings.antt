-- The refusals of openings by number and in words, and the tests of sizes that all forms share.
use Rattle.std.specs.Prelude.{ℕ, cond, ◌||◌, List, ◌++◌, Ok, Err, codes, decimal, Result, ◌==◌, nat_le, nat_lt}
use Rattle.forms.specs.declared.openings.OpenRefusal.{OpenRefusal}
use Rattle.forms.specs.declared.openings.OpenRefusal.TheVariants as refusal

-- the number of a refusal
abbrev pub open_number : OpenRefusal → ℕ
open_number refusal.Size = 10
open_number refusal.Start = 11
open_number refusal.NextLength = 12
open_number refusal.OutputLength = 13
open_number refusal.Front = 20
open_number refusal.Records = 21
open_number refusal.Length = 22

-- a refusal in words
abbrev pub open_text : OpenRefusal → List ℕ
open_text e = codes "refused " ++ decimal (open_number e)

-- n states and k inputs within the panel's limits, then a start below n
abbrev pub size_test : ℕ → ℕ → ℕ → Result (Unit {0}) OpenRefusal
size_test n k s =
    cond (n == 0 || (nat_lt 128 n || (k == 0 || nat_lt 32 k))) (Err refusal.Size)
    (cond (nat_le n s) (Err refusal.Start)
    (Ok tt))
