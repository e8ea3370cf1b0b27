-- What the operations give that put a picture into another buffer with rows and columns exchanged.
use Rattle.std.specs.Prelude.{◌≡◌, Result, List, [], ◌++◌, ℕ, ◌*◌, length, get_or, drop}
use Rattle.grids.specs.Exchange.{exchange}
use Rattle.pictures.specs.declared.sizes.Size.{Size}
use Rattle.pictures.specs.declared.refusals.Refusal.{Refusal}
use Rattle.pictures.specs.Refusals.{given, refusal, served}
use Rattle.pictures.specs.Pictures.{pixel_bytes, picture_bytes, row_out, picture, bytes}
use Rattle.seam_bounds.specs.Moves.{exchange_rules, column_rules}

-- What an exchange gives: the number, and the space, which keeps what stands after the exchanged picture.
pub record ExchangeGiven (b : List ℕ) (z : Size) (to : List ℕ) (answer : Result (Unit {0}) Refusal) (to' : List ℕ) : Type 0 where
  pub number : given answer ≡ refusal (exchange_rules z (length b) (length to))
  pub to_given : to' ≡ served (given answer) (bytes z.kind (exchange z.width (picture z b)) ++ drop (picture_bytes z) to) to

-- The bytes of column c from the top: row c of the exchanged picture.
abbrev pub column_bytes : Size → List ℕ → ℕ → List ℕ
column_bytes z b c = row_out z.kind (get_or (exchange z.width (picture z b)) c [])

-- What copying a column gives: the number, and the space, which keeps what stands after the column.
pub record ColumnGiven (b : List ℕ) (z : Size) (c : ℕ) (out : List ℕ) (answer : Result (Unit {0}) Refusal) (out' : List ℕ) : Type 0 where
  pub number : given answer ≡ refusal (column_rules z (length b) c (length out))
  pub out_given : out' ≡ served (given answer) (column_bytes z b c ++ drop (z.height * pixel_bytes z.kind) out) out
