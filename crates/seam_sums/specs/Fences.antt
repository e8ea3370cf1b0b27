-- The numbers that bound sums.
use Rattle.std.specs.Prelude.{ℕ}

-- The number at both sides of a row of sums: a cost can be added to it in 32 bits. 2 ^ 31.
abbrev pub fence32 : ℕ
fence32 = 2147483648

-- The largest number of 32 bits.
abbrev pub largest_word : ℕ
largest_word = 4294967295

-- A number larger than every sum of weights. 2 ^ 40.
abbrev pub weights_fence : ℕ
weights_fence = 1099511627776
