-- A picture turned, and a seam closed up along either axis, in lent buffers: when it is refused, and what it gives.
use Rattle.std.specs.Prelude.{◌≡◌, Result, List, ◌∷◌, ◌++◌, ℕ, ◌*◌, length, drop, replicate}
use Rattle.grids.specs.Cut.{cut}
use Rattle.pictures.specs.declared.sizes.Size.{Size}
use Rattle.pictures.specs.declared.refusals.Refusal.{Refusal}
use Rattle.pictures.specs.Refusals.{Rule, ◌when◌, given, refusal, served}
use Rattle.pictures.specs.Pictures.{Picture, pixel_bytes, picture_bytes, picture, bytes, picture_in}
use Rattle.seam_bounds.specs.Moves.{outside, exchange_rules}
use Rattle.seam_rules.specs.declared.answers.Axis.{Axis}
use Rattle.seam_rules.specs.declared.answers.Axis.TheVariants.{Vertical, Horizontal}
use Rattle.seam_rules.specs.Axes.{turned_size, narrowed}
use Rattle.seam_rules.specs.Cuts.{close_along_lengths, last_rules}
use Rattle.seam_turn.specs.Axes.{turned}

-- What turning gives, refused as an exchange is: the number, and the space, which keeps what stands after the turned picture.
pub record TurnGiven (b : List ℕ) (z : Size) (x : Axis) (to : List ℕ) (answer : Result (Unit {0}) Refusal) (to' : List ℕ) : Type 0 where
  pub number : given answer ≡ refusal (exchange_rules z (length b) (length to))
  pub to_given : to' ≡ served (given answer) (bytes z.kind (turned x z.width (picture z b)) ++ drop (picture_bytes z) to) to

-- When closing up is refused: for the lengths of the buffers, by 10 where a column of the seam, or a row, is outside the
-- picture, and by 13 at the last column or row.
abbrev pub close_along_rules : Axis → Size → ℕ → List ℕ → ℕ → List Rule
close_along_rules x z bytes s work = close_along_lengths x z bytes (length s) work ++ (10 when outside (turned_size x z).width s ∷ last_rules x z)

-- The picture turned, from which the seam is taken: a vertical seam's is the picture as it lies, a horizontal one's stands at the
-- front of the work space.
unfoldable pub turned_in : Axis → Size → List ℕ → List ℕ → Picture
turned_in Vertical z b work = picture z b
turned_in Horizontal z b work = picture_in (turned_size Horizontal z) work

-- Only a horizontal seam changes the work space: the turned picture stands there without the seam, the freed bytes 0.
unfoldable pub left_work : Axis → Size → List ℕ → ℕ → List ℕ → List ℕ
left_work Vertical z s n work = work
left_work Horizontal z s n work =
    served n
    (bytes z.kind (cut s (picture_in (turned_size Horizontal z) work)) ++ (replicate (z.width * pixel_bytes z.kind) 0 ++ drop (picture_bytes z) work))
    work

-- What closing up gives: the number; the turned picture without the seam, turned back, its rows packed at the front and the freed
-- bytes 0; and the work space.
pub record CloseAlongGiven (b : List ℕ) (z : Size) (x : Axis) (s work : List ℕ) (answer : Result (Unit {0}) Refusal) (b' work' : List ℕ) : Type 0 where
  pub number : given answer ≡ refusal (close_along_rules x z (length b) s (length work))
  pub picture_left :
      b' ≡ served (given answer)
      (bytes z.kind (turned x (narrowed (turned_size x z)).width (cut s (turned_in x z b work))) ++ replicate ((turned_size x z).height * pixel_bytes z.kind) 0)
      b
  pub work_left : work' ≡ left_work x z s (given answer) work
