-- `map_build::carving::next_seam` meets its contract: the costs that are kept are those of what is left, so the path found is its seam.
use mathlib.Core.Path.{◌≡◌, refl, ap, ◌∙◌}
use Prim.Native.Nat.{ℕ, ◌≤◌}
use native.Mathlib.Omega.{arith}
use Rattle.std.proofs.Common.{rules, Fits, w8}
use lib.ListN.{length, get_or, take, replicate, length-replicate}
use lib.Seq.{length-take-le}
use Rattle.pictures.specs.Pictures.{largest_side}
use Rattle.pictures.proofs.Limits.{sides_are}
use Rattle.seam_theory.specs.PictureSeams.{seam_of}
use Rattle.seam_planes.specs.Planes.{numbers_of}
use Rattle.map_build.specs.Inner.Carving.{left_picture}
use Rattle.map_build.proofs.Steps.{find_asked, seam_is, s_long, number_needed, columns_seam, picture_seam, keep_asked, held_next, numbered}
use Rattle.map_build.proofs.carving.next_seam.Goals as goal
use Rattle.map_build.proofs.carving.next_seam.Goals.{After-find_kept-is_enough}

-- a seam's room
room : (h : ℕ) → h ≤ largest_side → length (take h (replicate {A = ℕ} largest_side 0)) ≡ h
room h l = length-take-le h (replicate {A = ℕ} largest_side 0) (omega (arith, l, length-replicate {A = ℕ} largest_side 0))

-- what is found is the seam
seam : (c : After-find_kept-is_enough) → c.find_kept-is_enough.new.seam ≡ seam_of c.args.method c.args.width c.args.size.height (left_picture c.args.size c.args.width c.args.picture.now)
seam c =
    let a = c.args in
    let fits : (i : ℕ) → Fits w8 (get_or a.up.now i 0) = search rules in
    let tall : a.size.height ≤ largest_side = (sides_are a.size c.requires.sized.sides).height_most in
    seam_is a.size a.method a.width a.number a.picture.now a.up.now a.left.now a.right.now a.columns.now (length a.sums.now) a.map.now c.requires c.find_kept-is_enough.new.seam
    (take a.size.height (replicate {A = ℕ} largest_side 0)) (λ i. omega (arith, fits i)) (room a.size.height tall)
    (c.find_kept-is_enough.ensures.found
    (find_asked a.size a.method a.width a.number a.picture.now a.up.now a.left.now a.right.now a.columns.now (length a.sums.now) a.map.now c.requires (length a.sums.now)
    (length (take a.size.height (replicate {A = ℕ} largest_side 0))) refl (room a.size.height tall))).seam_given

pub number_rows-requires : goal.number_rows-requires
number_rows-requires c =
    let a = c.args in
    rw (seam (goal.at.number_rows-requires c).After-find_kept-is_enough)
    (number_needed a.size a.method a.width a.number a.picture.now a.up.now a.left.now a.right.now a.columns.now (length a.sums.now) a.map.now c.requires)

pub keep_all-requires-clause-asked : goal.keep_all-requires-clause-asked
keep_all-requires-clause-asked c =
    let a = c.args in
    rw (seam (goal.at.keep_all-requires-clause-asked c).After-find_kept-is_enough)
    (keep_asked a.size a.method a.width a.number a.picture.now a.up.now a.left.now a.right.now a.columns.now (length a.sums.now) a.map.now c.requires
    (length c.close_picture.new.picture) c.close_picture.ensures.long)

pub returns : goal.returns
returns c =
    let a = c.args in
    let n = c.requires in
    let p = c.close_picture in
    let k = c.keep_all in
    let first = c.number_rows in
    let columns = c.close_numbers in
    let is = seam (goal.at.returns c).After-find_kept-is_enough in
    let long = s_long a.size a.method a.width a.number a.picture.now a.up.now a.left.now a.right.now a.columns.now (length a.sums.now) a.map.now n in
    let in_columns = columns_seam a.size a.method a.width a.number a.picture.now a.up.now a.left.now a.right.now a.columns.now (length a.sums.now) a.map.now n in
    let in_picture = picture_seam a.size a.method a.width a.number a.picture.now a.up.now a.left.now a.right.now a.columns.now (length a.sums.now) a.map.now n in
    let closed = rw is at (p.ensures.closed (rw is in_picture)) in
    let columns_closed = rw (is, long) at (columns.ensures.closed (rw is in_columns)) in
    let put = rw is at first.ensures in
    let kept = rw is at k.ensures in
    record {
      sized = record {
        sides = n.sized.sides;
        picture_long = p.ensures.long ∙ n.sized.picture_long;
        up_long = k.ensures.up_long ∙ n.sized.up_long;
        left_long = k.ensures.left_long ∙ n.sized.left_long;
        right_long = k.ensures.right_long ∙ n.sized.right_long;
        columns_long = columns.ensures.long ∙ n.sized.columns_long;
        map_long = first.auto.map ∙ n.sized.map_long;
      };
      picture_left = closed;
      numbered = ap (numbers_of a.size.width a.size.height) put
          ∙ numbered a.size a.method a.width a.number a.picture.now a.up.now a.left.now a.right.now a.columns.now (length a.sums.now) a.map.now n;
      costs_kept = kept;
      held = held_next a.size a.method a.width a.number a.picture.now a.up.now a.left.now a.right.now a.columns.now (length a.sums.now) a.map.now n
          p.new.picture k.new.up k.new.left k.new.right columns.new.plane first.new.map closed columns_closed put kept;
    }
