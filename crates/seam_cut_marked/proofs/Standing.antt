-- A picture and its marks that stand turned, one after the other, at the front of a work space, as closing up needs each.
use mathlib.Core.Path.{◌≡◌, sym, ap, ap₂, ◌∙◌}
use mathlib.Core.List.{List, ◌++◌, append_assoc}
use Prim.Native.Nat.{ℕ, ◌+◌}
use native.Mathlib.Omega.{arith}
use lib.ListN.{length, take, drop, replicate, length-append, take-append-drop}
use lib.Seq.{take_at, drop_at, take-take}
use Rattle.std.proofs.lemmas.List.{drop-take}
use Rattle.grids.specs.Rows.{flat}
use Rattle.pictures.specs.declared.sizes.Size.{Size}
use Rattle.pictures.specs.Pictures.{picture_bytes, picture, bytes, pixels, marks_of, picture_in}
use Rattle.pictures.proofs.Buffers.{picture-of_size}
use Rattle.seam_rules.specs.declared.answers.Axis.{Axis}
use Rattle.seam_rules.specs.Axes.{turned_size, grey_of}
use Rattle.seam_rules.proofs.Turns.{turned-bytes}
use Rattle.seam_turn.specs.Axes.{turned}
use Rattle.seam_turn.proofs.Turned.{length-turned, turned-picture}
use Rattle.seam_cut_marked.specs.Marking.{searched}
use Rattle.seam_cut_marked.proofs.Marks.{grey-bytes, marks-long, marks-turned}

-- Picture and marks turned, and where they stand when a seam was looked for.
module _ (x : Axis) (z : Size) (b m : List ℕ) (is-picture : length b ≡ picture_bytes z) (is-marks : length m ≡ pixels z) where
  abbrev front : List ℕ
  front = bytes z.kind (turned x z.width (picture z b))

  abbrev back : List ℕ
  back = flat (turned x z.width (marks_of z m))

  pub front-long : length (bytes z.kind (turned x z.width (picture z b))) ≡ picture_bytes z
  front-long = length-turned x z (picture z b) (picture-of_size z b is-picture) ∙ turned-bytes x z

  pub both-long : length (bytes z.kind (turned x z.width (picture z b)) ++ flat (turned x z.width (marks_of z m))) ≡ picture_bytes z + pixels z
  both-long = length-append front back ∙ ap₂ ◌+◌ front-long (marks-long x z m is-marks)

  pub searched_front : (work : List ℕ) → take (picture_bytes z + pixels z) (searched x z b m work) ≡ bytes z.kind (turned x z.width (picture z b)) ++ flat (turned x z.width (marks_of z m))
  searched_front work =
      let rest = replicate (pixels z) 0 ++ drop (picture_bytes z + (pixels z + pixels z)) work in
      ap (take (picture_bytes z + pixels z)) (sym (append_assoc front back rest)) ∙ take_at (front ++ back) rest (picture_bytes z + pixels z) both-long

module _ (x : Axis) (z : Size) (b m work : List ℕ) (is-picture : length b ≡ picture_bytes z) (is-marks : length m ≡ pixels z)
    (stand : take (picture_bytes z + pixels z) work ≡ bytes z.kind (turned x z.width (picture z b)) ++ flat (turned x z.width (marks_of z m))) where
  long : length (bytes z.kind (turned x z.width (picture z b))) ≡ picture_bytes z
  long = front-long x z b m is-picture is-marks

  picture-front : take (picture_bytes z) work ≡ bytes z.kind (turned x z.width (picture z b))
  picture-front =
      sym (take-take (picture_bytes z) (picture_bytes z + pixels z) work (omega arith))
      ∙ ap (take (picture_bytes z)) stand
      ∙ take_at (bytes z.kind (turned x z.width (picture z b))) (flat (turned x z.width (marks_of z m))) (picture_bytes z) long

  marks-front : take (pixels z) (drop (picture_bytes z) work) ≡ flat (turned x z.width (marks_of z m))
  marks-front =
      sym (drop-take (picture_bytes z) (pixels z) work)
      ∙ ap (drop (picture_bytes z)) stand
      ∙ drop_at (bytes z.kind (turned x z.width (picture z b))) (flat (turned x z.width (marks_of z m))) (picture_bytes z) long

  -- The picture, whatever stands after it.
  pub picture_stands : (after : List ℕ) → picture_in (turned_size x z) (take (picture_bytes z) work ++ after) ≡ turned x z.width (picture z b)
  picture_stands after = turned-picture x z b (take (picture_bytes z) work ++ after) after is-picture (ap (◌++ after) picture-front)

  -- The marks after it, as a grey picture.
  pub marks_stand : picture_in (turned_size x (grey_of z)) (drop (picture_bytes z) work) ≡ turned x z.width (picture (grey_of z) m)
  marks_stand =
      let after = drop (picture_bytes z) work in
      turned-picture x (grey_of z) m after (drop (pixels z) after) (is-marks ∙ sym (grey-bytes z))
      (sym (take-append-drop (pixels z) after) ∙ ap (◌++ drop (pixels z) after) (marks-front ∙ sym (marks-turned x z m is-marks)))
