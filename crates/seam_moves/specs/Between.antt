-- Moving inside one space: some bytes copied, or a picture exchanged, from one place to another.
use Rattle.std.specs.Prelude.{◌≡◌, Result, not, List, [], ◌∷◌, ◌++◌, ℕ, ◌+◌, length, take, drop}
use Rattle.grids.specs.Exchange.{exchange}
use Rattle.pictures.specs.declared.sizes.Size.{Size}
use Rattle.pictures.specs.declared.refusals.Refusal.{Refusal}
use Rattle.pictures.specs.Refusals.{Rule, ◌when◌, given, refusal, served}
use Rattle.pictures.specs.Pictures.{picture_bytes, side_rules, picture, bytes}
use Rattle.seam_bounds.specs.Moves.{apart_in}

-- The n bytes at a place of a space.
abbrev pub part_at : ℕ → ℕ → List ℕ → List ℕ
part_at at n space = take n (drop at space)

-- The space with the n bytes at a place replaced.
abbrev pub put_at : ℕ → ℕ → List ℕ → List ℕ → List ℕ
put_at at n new space = take at space ++ (new ++ drop (at + n) space)

-- Copying is refused where one of the two places reaches past the end of the space, or where they overlap.
abbrev pub copy_between_rules : ℕ → ℕ → ℕ → ℕ → List Rule
copy_between_rules space from n to = 8 when not (apart_in space from to n) ∷ []

-- What copying gives: the number, and the space.
pub record CopyBetweenGiven (space : List ℕ) (from n to : ℕ) (answer : Result (Unit {0}) Refusal) (space' : List ℕ) : Type 0 where
  pub number : given answer ≡ refusal (copy_between_rules (length space) from n to)
  pub space_left : space' ≡ served (given answer) (put_at to n (part_at from n space) space) space

-- Exchanging is also refused by 2 and 3, as every size is.
abbrev pub exchange_between_rules : ℕ → ℕ → Size → ℕ → List Rule
exchange_between_rules space from z to = side_rules z ++ copy_between_rules space from (picture_bytes z) to

-- What exchanging gives: the number, and the space.
pub record ExchangeBetweenGiven (space : List ℕ) (from : ℕ) (z : Size) (to : ℕ) (answer : Result (Unit {0}) Refusal) (space' : List ℕ) : Type 0 where
  pub number : given answer ≡ refusal (exchange_between_rules (length space) from z to)
  pub space_left :
      space' ≡ served (given answer)
      (put_at to (picture_bytes z) (bytes z.kind (exchange z.width (picture z (part_at from (picture_bytes z) space)))) space)
      space
