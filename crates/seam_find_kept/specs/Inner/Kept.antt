-- What sums are kept in: numbers of some bytes each, the low byte first. What private functions ask and promise; no public promise cites it.
use Rattle.std.specs.Prelude.{◌≡◌, List, [], ◌∷◌, ◌++◌, ℕ, ◌*◌, ◌≤◌, ◌<◌, length, take}
use Rattle.pictures.specs.Numbers.{two_bytes, largest_number}

-- The number of four bytes.
abbrev pub four_bytes : ℕ → ℕ → ℕ → ℕ → ℕ
four_bytes a b c d = two_bytes a (two_bytes b (two_bytes c d))

-- The numbers of four bytes each. Last bytes that make no number are left out.
abbrev pub words_in : List ℕ → List ℕ
words_in [] = []
words_in (a ∷ []) = []
words_in (a ∷ b ∷ []) = []
words_in (a ∷ b ∷ c ∷ []) = []
words_in (a ∷ b ∷ c ∷ d ∷ r) = four_bytes a b c d ∷ words_in r

-- What holds of `held b`, the numbers of n bytes each that stand in b, none of them above `most`: a cost is such a number, how many there
-- are, and those of bytes taken from the front or put one after the other.
pub record SumLaws (n most : ℕ) (held : List ℕ → List ℕ) : Type 0 where
  pub some : 0 < n
  pub few : n ≤ 4
  pub costs : largest_number ≤ most
  pub one : (b : List ℕ) → n ≤ length b → 0 < length (held b)
  pub long : (m : ℕ) (b : List ℕ) → length b ≡ m * n → length (held b) ≡ m
  pub front : (m : ℕ) (b : List ℕ) → held (take (m * n) b) ≡ take m (held b)
  pub joined : (m : ℕ) (x y : List ℕ) → length x ≡ m * n → held (x ++ y) ≡ held x ++ held y
