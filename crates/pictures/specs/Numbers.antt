-- Numbers in bytes: two a number, the low byte first.
use Rattle.std.specs.Prelude.{List, [], ◌∷◌, ℕ, ◌+◌, ◌*◌, ◌/◌, ◌%◌}

-- The largest number of two bytes.
abbrev pub largest_number : ℕ
largest_number = 65535

-- The number of a low and a high byte, and the two bytes of a number.
abbrev pub two_bytes : ℕ → ℕ → ℕ
two_bytes low high = low + 256 * high

abbrev pub low_byte : ℕ → ℕ
low_byte v = v % 256

abbrev pub high_byte : ℕ → ℕ
high_byte v = v / 256

-- The bytes of numbers, none over the largest.
abbrev pub pairs : List ℕ → List ℕ
pairs [] = []
pairs (v ∷ ys) = low_byte v ∷ high_byte v ∷ pairs ys

-- The numbers in bytes. A last byte that makes no number is left out.
abbrev pub numbers_in : List ℕ → List ℕ
numbers_in [] = []
numbers_in (a ∷ []) = []
numbers_in (a ∷ b ∷ r) = two_bytes a b ∷ numbers_in r
