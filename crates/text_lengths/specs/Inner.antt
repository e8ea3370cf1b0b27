-- What private functions promise. No public promise cites it.
use Rattle.std.specs.Prelude.{List, [], ◌∷◌, ℕ, ◌+◌, cond, leb}

-- How many samples are counted at a time.
abbrev pub part_length : ℕ
part_length = 4096

-- How many digits samples, which have up to three, have besides their first.
abbrev pub further_digits : List ℕ → ℕ
further_digits [] = 0
further_digits (x ∷ xs) = cond (leb 10 x) 1 0 + cond (leb 100 x) 1 0 + further_digits xs
