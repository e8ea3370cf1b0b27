-- A seam cut at places of the work space, in the terms of the code.
use mathlib.Core.Path.{◌≡◌, refl, ap, ap₂, ◌∙◌}
use mathlib.Core.Logic.{inl, inr, ⊎_elim}
use mathlib.Core.List.{List, ◌++◌, append_assoc}
use Prim.Native.Nat.{ℕ, ◌+◌, ◌-◌, ◌*◌, ◌≤◌, ◌<◌}
use native.Mathlib.Nat.{mul-le-mul_left, mul-le-mul_right, add-sub_cancel_left}
use native.Mathlib.Omega.{arith}
use borrow.Rule.Slice.PartMut.{mid_of, put_mid}
use lib.ListN.{length, take, drop, replicate}
use lib.Seq.{take_at, drop_at, length-take-le}
use Rattle.grids.specs.Each.{Each}
use Rattle.grids.specs.Cut.{cut}
use Rattle.grids.proofs.Cut.{cut_narrower}
use Rattle.grids.proofs.Parts.{put_part}
use Rattle.pictures.specs.declared.sizes.Size.{Size}
use Rattle.pictures.specs.declared.refusals.Refusal.{Refusal}
use Rattle.std.specs.Prelude.{Result, IsOk}
use Rattle.pictures.specs.Refusals.{refusal}
use Rattle.pictures.specs.Pictures.{largest_side, Picture, pixel_bytes, picture_bytes, side_rules, picture, bytes, OfSize, pixels}
use Rattle.pictures.proofs.Limits.{Sides, sides_are, sized-served, sides_of}
use Rattle.pictures.proofs.Buffers.{picture_bytes_lem, length-bytes}
use Rattle.energy.specs.declared.methods.Method.{Method}
use Rattle.seam_bounds.specs.Inner.{PlacesApart}
use Rattle.seam_moves.specs.Between.{part_at, put_at}
use Rattle.seam_close.specs.Closing.{CloseGiven}
use Rattle.seam_moves.proofs.Places.{Kept, kept_part, put_there, put_kept, length_part}
use Rattle.seam_close.proofs.Answered.{close_up_ok}
use Rattle.seam_close.proofs.Served.{close_served}
use Rattle.seam_rules.specs.declared.answers.Axis.{Axis}
use Rattle.seam_rules.specs.Axes.{turned_size, narrowed}
use Rattle.seam_turn.specs.Axes.{turned, cut_along}
use Rattle.seam_cut.specs.Axes.{seam_along}
use Rattle.seam_rules.proofs.Turns.{turned-bytes, turned-sides}
use Rattle.seam_turn.proofs.Turned.{turned-of_size, length-turned, turned_bytes_lem}
use Rattle.seam_cut.proofs.Inside.{along_inside}
use Rattle.seam_retarget.specs.Inner.Seams.{picture_at, left_along, SeamGiven, CutNeeded, CutGiven, StepNeeded, StepGiven}
use Rattle.seam_retarget.proofs.Steps.{sized_at, at_of_size}

-- The size that a cut leaves takes no more bytes, and is allowed.
left-few : (t : Size) → picture_bytes (narrowed t) ≤ picture_bytes t
left-few t =
    let w : t.width - 1 ≤ t.width = omega arith in
    mul-le-mul_left t.height (mul-le-mul_right (pixel_bytes t.kind) w)

left-sides : (t : Size) → Sides t → 1 < t.width → refusal (side_rules (narrowed t)) ≡ 0
left-sides t s wide = sides_of (narrowed t) (omega arith) (omega (arith, s.width_most)) s.height_some s.height_most

left-of_size : (t : Size) (s : List ℕ) (q : Picture) → 1 < t.width → Each (λ c. c < t.width) t.height s → OfSize t q → OfSize (narrowed t) (cut s q)
left-of_size t s q wide inside o = cut_narrower t.width wide inside o

-- A seam has at most as many columns or rows as the largest side.
pub turned_tall : (x : Axis) (z : Size) → refusal (side_rules z) ≡ 0 → (turned_size x z).height ≤ largest_side
turned_tall x z s = (sides_are (turned_size x z) (turned-sides x z (picture_bytes z) (sized_at z s))).height_most

-- The cut at a place. `closed` is the part that comes back, `two` the space after the turn.
module _ (work : List ℕ) (at : ℕ) (z : Size) (x : Axis) (seam : List ℕ) (to : ℕ) (sides : refusal (side_rules z) ≡ 0) (needed : CutNeeded (length work) at z x seam to) where
  abbrev t : Size
  t = turned_size x z

  abbrev P : ℕ
  P = picture_bytes t

  abbrev s : List ℕ
  s = take t.height seam

  abbrev q : Picture
  q = picture_at t at work

  abbrev left : Size
  left = narrowed t

  sides-t : refusal (side_rules t) ≡ 0
  sides-t = turned-sides x z (picture_bytes z) (sized_at z sides)

  same_bytes : picture_bytes t ≡ picture_bytes z
  same_bytes = turned-bytes x z

  room : at + picture_bytes t ≤ length work
  room = omega (arith, same_bytes, needed.places.from_inside)

  module _ (all : ℕ) (all_is : all ≡ picture_bytes (turned_size x z)) (v : Result (Unit {0}) Refusal) (closed : List ℕ)
      (g : CloseGiven (mid_of at (at + all - at) work) (turned_size x z) (take (turned_size x z).height seam) v closed)
      (as_long : length closed ≡ length (mid_of at (at + all - at) work)) where
    lent : mid_of at (at + all - at) work ≡ part_at at (picture_bytes t) work
    lent = ap (λ n. take n (drop at work)) (add-sub_cancel_left at all ∙ all_is)

    closed_is : closed ≡ bytes t.kind (cut s q) ++ replicate (t.height * pixel_bytes t.kind) 0
    closed_is =
        close_served (part_at at (picture_bytes t) work) t s closed v (rw lent at g)
        (rw (length_part at (picture_bytes t) work room) (sized-served t sides-t)) needed.inside needed.wide

    pub closed_ok : IsOk v
    closed_ok =
        close_up_ok (part_at at (picture_bytes t) work) t s closed v (rw lent at g)
        (rw (length_part at (picture_bytes t) work room) (sized-served t sides-t)) needed.inside needed.wide

    closed-long : length closed ≡ picture_bytes t
    closed-long = as_long ∙ ap length lent ∙ length_part at (picture_bytes t) work room

    abbrev one : List ℕ
    one = put_mid at (at + all - at) work closed

    one-is : one ≡ put_at at (picture_bytes t) closed work
    one-is = put_part at (at + all) work closed (omega arith) ∙ ap (λ n. take at work ++ (closed ++ drop (at + n) work)) all_is

    kept : Kept at (picture_bytes t) work one
    kept = rw one-is (put_kept at (picture_bytes t) closed work closed-long room)

    rest-of : OfSize left (cut s q)
    rest-of = left-of_size t s q needed.wide needed.inside (at_of_size t at work room)

    rest-is : picture_at left at one ≡ cut s q
    rest-is =
        let few = left-few t in
        let long = length-bytes left (cut s q) rest-of in
        ap (picture left)
        (ap (λ w. take (picture_bytes left) (drop at w)) one-is
        ∙ ap (take (picture_bytes left)) (drop_at (take at work) (closed ++ drop (at + picture_bytes t) work) at (length-take-le at work (omega (arith, room))) ∙ ap (◌++ drop (at + picture_bytes t) work) closed_is ∙ append_assoc (bytes t.kind (cut s q)) (replicate (t.height * pixel_bytes t.kind) 0) (drop (at + picture_bytes t) work))
        ∙ take_at (bytes t.kind (cut s q)) (replicate (t.height * pixel_bytes t.kind) 0 ++ drop (at + picture_bytes t) work) (picture_bytes left) long)
        ∙ picture_bytes_lem left (cut s q) rest-of

    pub back_places : PlacesApart (length one) at to (picture_bytes left)
    back_places = record {
      from_inside = omega (arith, kept.long, room, left-few t);
      to_inside = omega (arith, kept.long, needed.places.to_inside, left-few t, same_bytes);
      apart = ⊎_elim (λ (l : at + picture_bytes z ≤ to). inl (omega (arith, left-few t, same_bytes))) (λ (l : to + picture_bytes z ≤ at). inr (omega (arith, left-few t, same_bytes))) needed.places.apart;
    }

    pub cut-given : (two : List ℕ) → two ≡ put_at to (picture_bytes left) (bytes left.kind (turned x left.width (picture_at left at one))) one → CutGiven work at z x seam to two
    cut-given two is =
        let n = picture_bytes left in
        let new : List ℕ = bytes t.kind (turned x left.width (cut s q)) in
        let two_is : two ≡ put_at to (picture_bytes left) (bytes t.kind (turned x left.width (cut s q))) one = is ∙ ap (λ p. put_at to (picture_bytes left) (bytes t.kind (turned x left.width p)) one) rest-is in
        let long : length (bytes t.kind (turned x left.width (cut s q))) ≡ picture_bytes left = length-turned x left (cut s q) rest-of ∙ turned-bytes x left in
        let inside = back_places.to_inside in
        let same : Kept to (picture_bytes left) one two = rw two_is (put_kept to (picture_bytes left) (bytes t.kind (turned x left.width (cut s q))) one long inside) in
        record {
          picture_is =
              ap (λ k. part_at to k two) (turned-bytes x left)
              ∙ ap (part_at to (picture_bytes left)) two_is ∙ put_there to (picture_bytes left) (bytes t.kind (turned x left.width (cut s q))) one long inside;
          long = same.long ∙ kept.long;
          others = λ a k l m.
              kept_part to (picture_bytes left) one two same a k
              (⊎_elim (λ (h : a + k ≤ to). inl h) (λ (h : to + picture_bytes z ≤ a). inr (omega (arith, left-few t, same_bytes))) m)
              ∙ kept_part at (picture_bytes t) work one kept a k
              (⊎_elim (λ (h : a + k ≤ at). inl h) (λ (h : at + picture_bytes z ≤ a). inr (omega (arith, same_bytes))) l);
        }

-- A seam found, and cut where its picture stands turned.
module _ (work : List ℕ) (from : ℕ) (z : Size) (how : Method) (x : Axis) (at : ℕ) (seam : List ℕ) (cost : ℕ) (one seam' : List ℕ)
    (found : SeamGiven work from z how x at seam cost one seam') (sides : refusal (side_rules z) ≡ 0) (inside : from + picture_bytes z ≤ length work) where
  p : Picture
  p = picture_at z from work

  p_of : OfSize z p
  unfolding p
  p_of = at_of_size z from work inside

  -- The turned picture, where it still stands in a later space.
  turned_there : (mid : List ℕ) → part_at at (picture_bytes z) mid ≡ part_at at (picture_bytes z) one → picture_at (turned_size x z) at mid ≡ turned x z.width (picture_at z from work)
  unfolding p
  turned_there mid still =
      ap (λ n. picture (turned_size x z) (part_at at n mid)) (turned-bytes x z)
      ∙ ap (picture (turned_size x z)) (still ∙ found.turned_is)
      ∙ turned_bytes_lem x z p p_of

  pub found_inside : Each (λ c. c < (turned_size x z).width) (turned_size x z).height (take (turned_size x z).height seam')
  found_inside = rw found.seam_is (along_inside how x z (picture_bytes z) (picture_at z from work) (sized_at z sides))

  pub cut_is : (mid : List ℕ) → part_at at (picture_bytes z) mid ≡ part_at at (picture_bytes z) one
      → (to : ℕ) (two : List ℕ) → 1 < (turned_size x z).width → CutGiven mid at z x seam' to two
      → picture_at (left_along x z) to two ≡ cut_along x z (seam_along how x z (picture_at z from work)) (picture_at z from work)
  unfolding p cut_along
  cut_is mid still to two wide g =
      let t = turned_size x z in
      let s = seam_along how x z (picture_at z from work) in
      let q = turned x z.width (picture_at z from work) in
      let o : OfSize (turned_size x z) (turned x z.width (picture_at z from work)) = turned-of_size x z p p_of in
      let i = along_inside how x z (picture_bytes z) (picture_at z from work) (sized_at z sides) in
      let left = narrowed (turned_size x z) in
      ap (picture (left_along x z)) (g.picture_is ∙ ap₂ (λ u v. bytes (turned_size x z).kind (turned x ((turned_size x z).width - 1) (cut u v))) found.seam_is (turned_there mid still))
      ∙ turned_bytes_lem x left (cut s q) (left-of_size t s q wide i o)

-- Both, one after the other.
module _ (work : List ℕ) (from : ℕ) (z : Size) (how : Method) (x : Axis) (at to : ℕ) (sides : refusal (side_rules z) ≡ 0) (needed : StepNeeded (length work) from z x at to) where
  module _ (seam : List ℕ) (cost : ℕ) (one seam' : List ℕ) (found : SeamGiven work from z how x at seam cost one seam') (many : length seam ≡ largest_side) where
    pub step_cut : CutNeeded (length one) at z x seam' to
    step_cut = record {
      wide = needed.wide;
      seam_room = rw (found.seam_long ∙ many) (turned_tall x z sides);
      inside = found_inside work from z how x at seam cost one seam' found sides needed.source.from_inside;
      places = rw found.long needed.target;
    }

    pub step_given : (two : List ℕ) → CutGiven one at z x seam' to two → StepGiven work from z how x at to cost two
    step_given two g = record {
      cost_is = found.cost_is;
      cost_most = found.cost_most;
      picture_is = cut_is work from z how x at seam cost one seam' found sides needed.source.from_inside one refl to two needed.wide g;
      long = g.long ∙ found.long;
      others = λ a n l m.
          g.others a n (⊎_elim (λ (h : a + n ≤ at). inl h) (λ (h : at + (picture_bytes z + pixels z) ≤ a). inr (omega arith)) l) m
          ∙ found.others a n l;
    }
