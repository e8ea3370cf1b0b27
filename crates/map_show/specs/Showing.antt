-- A row of a picture and its row of the map, shown at a width.
use Rattle.std.specs.Prelude.{Result, ◌≡◌, Bool, not, cond, List, [], ◌∷◌, ◌++◌, ℕ, ◌+◌, ◌-◌, ◌*◌, eqb, leb, ltb, length, drop}
use Rattle.pictures.specs.declared.sizes.Kind.{Kind}
use Rattle.pictures.specs.declared.refusals.Refusal.{Refusal}
use Rattle.pictures.specs.Refusals.{Rule, ◌when◌, given, refusal, served}
use Rattle.pictures.specs.Pictures.{pixel_bytes, row_in, row_out}
use Rattle.map_theory.specs.Widths.{average, row_at_width}
use Rattle.map_theory.specs.Judged.{doubled_in}

-- The bytes of a row at width v: as many pixels as there are numbers, shown by them. `wrap` says whether the last column is joined to
-- the first.
unfoldable pub row_shown : Kind → Bool → List ℕ → List ℕ → ℕ → List ℕ
row_shown k wrap samples numbers v = row_out k (row_at_width average wrap (length numbers) v (row_in k (length numbers) samples) numbers)

-- How many pixels a row with these numbers shows at width v.
unfoldable pub pixels_at : List ℕ → ℕ → ℕ
pixels_at numbers v =
    cond (leb v (length numbers)) (length numbers - doubled_in (length numbers - v) numbers) (length numbers + doubled_in (v - length numbers) numbers)

-- When it is refused: where the samples aren't as many as the numbers say, and where the space is shorter than what is shown.
abbrev pub row_at_rules : Kind → Bool → List ℕ → List ℕ → ℕ → ℕ → List Rule
row_at_rules k wrap samples numbers v space =
    4 when not (eqb (length samples) (length numbers * pixel_bytes k)) ∷ 8 when ltb space (length (row_shown k wrap samples numbers v)) ∷ []

-- What showing a row gives: the number, and the space, which keeps what stands after the row.
pub record RowAtGiven (k : Kind) (wrap : Bool) (samples numbers : List ℕ) (v : ℕ) (out : List ℕ) (answer : Result (Unit {0}) Refusal) (out' : List ℕ) : Type 0 where
  pub number : given answer ≡ refusal (row_at_rules k wrap samples numbers v (length out))
  pub out_given :
      out' ≡ served (given answer) (row_shown k wrap samples numbers v ++ drop (length (row_shown k wrap samples numbers v)) out) out
