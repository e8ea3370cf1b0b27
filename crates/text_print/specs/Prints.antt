-- What printing leaves.
use Rattle.std.specs.Prelude.{◌≡◌, Option, None, Some, cond, List, [], ◌∷◌, ◌++◌, ℕ, ◌+◌, leb, ltb, length, take, drop}
use Rattle.pictures.specs.Refusals.{Rule, ◌when◌}

-- The number by which printing is refused, from the place after what it printed: 8, "output space shorter than the answer", where
-- there is none, and else 0; and the rule that gives it.
abbrev pub place_number : Option ℕ → ℕ
place_number None = 8
place_number (Some n) = 0

abbrev pub put_rules : ℕ → ℕ → ℕ → List Rule
put_rules space at bytes = 8 when ltb space (at + bytes) ∷ []

-- The bytes printed at a place of a space, if it has room for them: "output space beyond the answer keeps its bytes". 8 is
-- "output space shorter than the answer", and leaves the space as it was.
pub record Put (out : List ℕ) (at : ℕ) (bytes : List ℕ) (place : Option ℕ) (out' : List ℕ) : Type 0 where
  pub answer : place ≡ cond (leb (at + length bytes) (length out)) (Some (at + length bytes)) None
  pub space : out' ≡ cond (leb (at + length bytes) (length out)) (take at out ++ (bytes ++ drop (at + length bytes) out)) out
