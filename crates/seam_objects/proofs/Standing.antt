-- A picture and its marks at the front of their buffers: where they stand, and how they are read back.
use mathlib.Core.Path.{◌≡◌, sym, ap, ◌∙◌}
use mathlib.Core.List.{List, [], ◌++◌, append-nil}
use Prim.Native.Nat.{ℕ, ◌≤◌}
use native.Mathlib.Omega.{arith}
use lib.ListN.{length, take, drop, length-append}
use lib.Seq.{take_at, drop_at}
use Rattle.grids.specs.Rows.{flat}
use Rattle.grids.proofs.Shapes.{grid_of}
use Rattle.grids.proofs.Rows.{rows_of-flat, length-flat}
use Rattle.pictures.specs.declared.sizes.Size.{Size}
use Rattle.pictures.specs.Pictures.{channels_of, picture_bytes, picture, bytes, OfSize, pixels, marks_of}
use Rattle.pictures.proofs.Buffers.{picture_bytes_lem, length-bytes}
use Rattle.energy.specs.declared.methods.Method.{Method}
use Rattle.seam_objects.specs.Objects.{MarkedPicture}
use Rattle.seam_objects.specs.Inner.{front}
use Rattle.seam_objects.specs.Endings.{LeftShaped}

-- A picture and its marks of this size stand at the front of their buffers, with the freed bytes after them.
pub record Standing (z : Size) (how : Method) (s : MarkedPicture) (b m freed unmarked : List ℕ) : Type 0 where
  pub by : s.method ≡ how
  pub wide : s.width ≡ z.width
  pub high : s.height ≡ z.height
  pub shaped : LeftShaped (channels_of z.kind) s
  pub picture_is : b ≡ bytes z.kind s.picture ++ freed
  pub marks_are : m ≡ flat s.marks ++ unmarked

module _ {z : Size} {how : Method} {s : MarkedPicture} {b m freed unmarked : List ℕ} (there : Standing z how s b m freed unmarked) where
  of_size_lem : OfSize z s.picture
  of_size_lem = rw (there.wide, there.high) at there.shaped.picture_of

  long : length (bytes z.kind s.picture) ≡ picture_bytes z
  long = length-bytes z s.picture of_size_lem

  marks-long : length (flat s.marks) ≡ pixels z
  marks-long = rw (there.wide, there.high) at (length-flat (grid_of there.shaped.marks_of_each))

  pub front_bytes : take (picture_bytes z) b ≡ bytes z.kind s.picture
  front_bytes = ap (take (picture_bytes z)) there.picture_is ∙ take_at (bytes z.kind s.picture) freed (picture_bytes z) long

  pub front-marks : take (pixels z) m ≡ flat s.marks
  front-marks = ap (take (pixels z)) there.marks_are ∙ take_at (flat s.marks) unmarked (pixels z) marks-long

  pub bytes_after_lem : drop (picture_bytes z) b ≡ freed
  bytes_after_lem = ap (drop (picture_bytes z)) there.picture_is ∙ drop_at (bytes z.kind s.picture) freed (picture_bytes z) long

  pub marks-after : drop (pixels z) m ≡ unmarked
  marks-after = ap (drop (pixels z)) there.marks_are ∙ drop_at (flat s.marks) unmarked (pixels z) marks-long

  pub bytes_there : picture_bytes z ≤ length b
  bytes_there = rw there.picture_is (omega (arith, length-append (bytes z.kind s.picture) freed, long))

  pub marks_there : pixels z ≤ length m
  marks_there = rw there.marks_are (omega (arith, length-append (flat s.marks) unmarked, marks-long))

  rows_are : marks_of z (flat s.marks) ≡ s.marks
  rows_are =
      ap (marks_of z) (sym (append-nil (flat s.marks)))
      ∙ rw (← there.wide, ← there.high) (rows_of-flat [] (grid_of there.shaped.marks_of_each))

  pub front_is : front z how b m ≡ s
  front_is = λ i. record {
    method = sym there.by i;
    width = sym there.wide i;
    height = sym there.high i;
    picture = (ap (picture z) front_bytes ∙ picture_bytes_lem z s.picture of_size_lem) i;
    marks = (ap (marks_of z) front-marks ∙ rows_are) i;
  }
