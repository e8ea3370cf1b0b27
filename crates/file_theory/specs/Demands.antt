-- The other words of the demands on files: an allowed picture, a well-formed file, a file for a picture and a range.
use Rattle.std.specs.Prelude.{◌≡◌, ◌⊎◌, true, List, ℕ, ◌<◌, length}
use Rattle.std.proofs.Math.Option.{some}
use Rattle.grids.specs.Each.{Each, Grid}
use Rattle.pictures.specs.declared.sizes.Size.{Size}
use Rattle.pictures.specs.Refusals.{refusal}
use Rattle.pictures.specs.Pictures.{Picture, side_rules}
use Rattle.energy.specs.declared.methods.Method.{Method}
use Rattle.map_theory.specs.Widths.{allowed, offered}
use Rattle.map_theory.specs.Judged.{every, numbers}
use Rattle.text_theory.specs.declared.Head.{Head}
use Rattle.text_theory.specs.Words.{rule_text}
use Rattle.text_theory.specs.Files.{Parts, parse, All, Pixel}
use Rattle.file_theory.specs.Contents.{file_of}
use Rattle.file_theory.specs.Rules.{part_rules, judged_rules, check_rules}
use Rattle.file_theory.specs.Shows.{Accepted, offers, Drawn, shows, original, energy_word}

-- "A picture is allowed when 'Pictures' admits its size and kind": sides of 1 to `largest_side`, and as many rows of as many pixels as
-- they say, each with as many samples as its kind says, each sample a byte.
pub record AllowedPicture (z : Size) (p : Picture) : Type 0 where
  pub sides : refusal (side_rules z) ≡ 0
  pub pixels : Each (Each (Pixel z.kind) z.width) z.height p

-- Parts that 2, 3, 4 and 6 don't refuse: a size within the limits, as many rows of as many pixels and of as many map numbers
-- as it says, and a range that is allowed.
pub record Shaped (p : Parts) : Type 0 where
  pub sides : refusal (side_rules p.head.size) ≡ 0
  pub rows : Grid p.head.size.width p.head.size.height p.rows
  pub maps : Grid p.head.size.width p.head.size.height p.maps
  pub range : allowed p.head.size.width p.head.depth p.head.growth ≡ true

-- "A file is well-formed when none of 1 to 9 is given", in every work space that 8 doesn't refuse.
abbrev pub WellFormed : List ℕ → Type 0
WellFormed file =
    (work : List ℕ) → (refusal (check_rules file (length work)) ≡ 8 → ⊥)
    → (refusal (check_rules file (length work)) ≡ 0) ⊎ (9 < refusal (check_rules file (length work)))

-- An accepted file's parts: 2 to 6 don't refuse them, nor 9 to 11 their map.
pub record AcceptedParts (f : List ℕ) : Type 0 where
  pub parts : Parts
  pub parsed : parse f ≡ some parts
  pub shaped : refusal (part_rules parts) ≡ 0
  pub judged : refusal (judged_rules parts) ≡ 0

-- A well-formed file's parts: 2 to 6 don't refuse them, nor 9 their map.
pub record WellFormedParts (f : List ℕ) : Type 0 where
  pub parts : Parts
  pub parsed : parse f ≡ some parts
  pub shaped : refusal (part_rules parts) ≡ 0
  pub numbered : every (numbers parts.head.depth) parts.maps ≡ true

-- A file that is built from an allowed picture and an allowed range of widths.
pub record Built (f : List ℕ) : Type 0 where
  pub head : Head
  pub rows : Picture
  pub picture : AllowedPicture head.size rows
  pub range : allowed head.size.width head.depth head.growth ≡ true
  pub is : f ≡ file_of head rows

-- A list of bytes that is accepted, has the energy word of the method `how`, shows the picture p of size z at its original width,
-- and offers the widths of depth k and growth g.
pub record FileFor (z : Size) (how : Method) (p : Picture) (k g : ℕ) (file : List ℕ) : Type 0 where
  pub bytes_are : All (λ (b : ℕ). b < 256) file
  pub is_accepted : Accepted file
  pub width_is : original file ≡ z.width
  pub word_is : energy_word file ≡ rule_text how.energy
  pub picture_is : shows file z.width ≡ some (record { size = z; rows = p })
  pub widths_are : (v : ℕ) → offers file v ≡ offered z.width k g v

-- What a file shows at width v: a picture of this width, each pixel with as many samples as its kind says, none above its
-- largest.
pub record ShownAt (file : List ℕ) (v : ℕ) : Type 0 where
  pub drawn : Drawn
  pub shown : shows file v ≡ some drawn
  pub width : drawn.size.width ≡ v
  pub pixels : Each (Each (Pixel drawn.size.kind) v) drawn.size.height drawn.rows
