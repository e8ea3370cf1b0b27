-- A seam found at places of the work space, in the terms of the code.
use Rattle.pictures.specs.declared.refusals.Refusal.{Refusal}
use Rattle.std.specs.Prelude.{Result}
use mathlib.Core.Path.{◌≡◌, refl, sym, ap, ap₂, ◌∙◌}
use mathlib.Core.List.{List, ◌++◌, append_assoc, append-nil}
use Prim.Native.Nat.{ℕ, ◌+◌, ◌-◌, ◌≤◌}
use native.Mathlib.Nat.{le_of_eq, add_assoc}
use native.Mathlib.Omega.{arith}
use borrow.Rule.Slice.PartMut.{mid_of, put_mid}
use lib.ListN.{length, get_or, take, drop, replicate, length-append, length-drop, length-replicate, drop_of_length-le}
use lib.Seq.{take_at, drop_at, drop-drop, length-take-le, get_or-drop}
use Rattle.grids.proofs.Shapes.{each-length}
use Rattle.grids.proofs.Parts.{put_part, part_length, last_part}
use Rattle.pictures.specs.declared.sizes.Size.{Size}
use Rattle.pictures.specs.Refusals.{refusal}
use Rattle.pictures.specs.Pictures.{picture_bytes, side_rules, picture, bytes, OfSize, pixels}
use Rattle.pictures.proofs.Limits.{Sized, sides_are, sized_of}
use Rattle.pictures.proofs.Buffers.{picture-of_size, bytes-picture}
use Rattle.energy.specs.declared.methods.Method.{Method}
use Rattle.seam_bounds.specs.Inner.{PlacesApart}
use Rattle.seam_moves.specs.Between.{part_at, put_at, CopyBetweenGiven}
use Rattle.seam_moves.proofs.Places.{Kept, kept_part, put_kept, length_part}
use Rattle.seam_moves.proofs.Served.{copy_between-served}
use Rattle.seam_theory.specs.PictureSeams.{seam_of, cost_of}
use Rattle.seam_rules.specs.Answers.{found_cost}
use Rattle.seam_find.specs.Finding.{FindInGiven}
use Rattle.pictures.proofs.Samples.{AreBytes, take_bytes, drop_bytes}
use Rattle.seam_rules.specs.declared.answers.Axis.{Axis}
use Rattle.seam_rules.specs.declared.answers.Axis.TheVariants.{Vertical}
use Rattle.seam_rules.specs.Axes.{turned_size}
use Rattle.seam_turn.specs.Axes.{turned}
use Rattle.seam_cut.specs.Axes.{seam_along, cost_along}
use Rattle.seam_rules.proofs.Turns.{turned-bytes, turned-pixels, turned-sides}
use Rattle.seam_turn.proofs.Turned.{length-turned, turned-picture}
use Rattle.seam_cut.proofs.FindIn.{FoundThere, find_served}
use Rattle.seam_cut.proofs.Inside.{along_inside}
use Rattle.seam_retarget.specs.Inner.Seams.{picture_at, SeamNeeded, SeamGiven}
use Rattle.seam_retarget.proofs.Costs.{cost_small}

-- A size that is allowed, with its bytes.
pub sized_at : (z : Size) → refusal (side_rules z) ≡ 0 → Sized z (picture_bytes z)
sized_at z s = sized_of z (picture_bytes z) (sides_are z s) refl

-- The picture read at a place inside the space is a picture of its size.
pub at_of_size : (z : Size) (at : ℕ) (work : List ℕ) → at + picture_bytes z ≤ length work → OfSize z (picture_at z at work)
at_of_size z at work h = picture-of_size z (part_at at (picture_bytes z) work) (length_part at (picture_bytes z) work h)

-- A copy of a picture is the picture turned for a vertical seam.
pub copied-turned : (work work' : List ℕ) → AreBytes work → (from : ℕ) (z : Size) (to all : ℕ) (v : Result (Unit {0}) Refusal) → PlacesApart (length work) from to (picture_bytes z) → all ≡ picture_bytes z
    → CopyBetweenGiven work from all to v work'
    → work' ≡ put_at to (picture_bytes z) (bytes z.kind (turned Vertical z.width (picture_at z from work))) work
unfolding turned
copied-turned work work' small from z to all v needed is g =
    copy_between-served work from (picture_bytes z) to v work' (rw is at g) needed
    ∙ ap (λ x. put_at to (picture_bytes z) x work) (sym (bytes-picture z (part_at from (picture_bytes z) work) (length_part from (picture_bytes z) work needed.from_inside) (take_bytes (picture_bytes z) (drop from work) (drop_bytes from work small))))

-- The seam found where the picture stands turned. `one` is the space after the turn, `part` the part that comes back.
module _ (work : List ℕ) (from : ℕ) (z : Size) (how : Method) (x : Axis) (at : ℕ) (seam : List ℕ) (sides : refusal (side_rules z) ≡ 0)
    (needed : SeamNeeded (length work) from z x at (length seam)) where
  abbrev t : Size
  t = turned_size x z

  abbrev P : ℕ
  P = picture_bytes z

  abbrev X : ℕ
  X = pixels z

  abbrev b : List ℕ
  b = part_at from (picture_bytes z) work

  abbrev Q : List ℕ
  Q = bytes z.kind (turned x z.width (picture_at z from work))

  sized : Sized z (picture_bytes z)
  sized = sized_at z sides

  b-long : length b ≡ picture_bytes z
  b-long = length_part from (picture_bytes z) work needed.places.from_inside

  Q-long : length Q ≡ picture_bytes z
  Q-long = length-turned x z (picture_at z from work) (picture-of_size z b b-long) ∙ turned-bytes x z

  module _ (one : List ℕ) (is : one ≡ put_at at (picture_bytes z) (bytes z.kind (turned x z.width (picture_at z from work))) work) where
    kept : Kept at (picture_bytes z) work one
    kept = rw is (put_kept at (picture_bytes z) Q work Q-long needed.places.to_inside)

    pub turn-long : length one ≡ length work
    turn-long = kept.long

    abbrev lent : List ℕ
    lent = mid_of at (length one - at) one

    lent_is : lent ≡ Q ++ drop (at + picture_bytes z) work
    lent_is =
        let room = needed.room in
        last_part at one
        ∙ ap (drop at) is
        ∙ drop_at (take at work) (Q ++ drop (at + picture_bytes z) work) at (length-take-le at work (omega arith))

    lent-long : length lent ≡ length work - at
    lent-long =
        let room = needed.room in
        part_length at (length one) one (omega arith) ∙ ap (◌- at) turn-long

    module _ (found : Result ℕ Refusal) (part seam' : List ℕ) (g : FindInGiven (mid_of at (length one - at) one) (turned_size x z) how seam found part seam')
        (small : (i : ℕ) → get_or one i 0 ≤ 255) where
      sides-t : refusal (side_rules t) ≡ 0
      sides-t = turned-sides x z (picture_bytes z) sized

      pub there : FoundThere lent t how seam found part seam'
      there = find_served lent t how seam found part seam' g sides-t needed.seam_room (omega (arith, needed.room, lent-long, turned-bytes x z, turned-pixels x z))

      seen : picture t (take (picture_bytes t) lent) ≡ turned x z.width (picture_at z from work)
      seen = turned-picture x z b lent (drop (at + picture_bytes z) work) b-long lent_is

      few : (i : ℕ) → get_or lent i 0 ≤ 255
      few = take_bytes (length one - at) (drop at one) (λ i. rw (get_or-drop at one i 0) (small (at + i)))

      -- The space that is left, as one write.
      abbrev new : List ℕ
      new = Q ++ replicate (pixels z) 0

      new-long : length new ≡ picture_bytes z + pixels z
      new-long = length-append Q (replicate (pixels z) 0) ∙ ap₂ ◌+◌ Q-long (length-replicate {A = ℕ} (pixels z) 0)

      part-is : part ≡ Q ++ (replicate (pixels z) 0 ++ drop (at + (picture_bytes z + pixels z)) work)
      part-is =
          there.space_left
          ∙ ap₂ (λ n m. take n lent ++ (replicate m 0 ++ drop (n + m) lent)) (turned-bytes x z) (turned-pixels x z)
          ∙ ap₂ (λ u v. u ++ (replicate (pixels z) 0 ++ v))
          (ap (take (picture_bytes z)) lent_is ∙ take_at Q (drop (at + picture_bytes z) work) (picture_bytes z) Q-long)
          (sym (drop-drop (pixels z) (picture_bytes z) lent)
          ∙ ap (drop (pixels z)) (ap (drop (picture_bytes z)) lent_is ∙ drop_at Q (drop (at + picture_bytes z) work) (picture_bytes z) Q-long)
          ∙ drop-drop (pixels z) (at + picture_bytes z) work ∙ ap (λ n. drop n work) (add_assoc at (picture_bytes z) (pixels z)))

      left_is : put_mid at (length one - at) one part ≡ put_at at (picture_bytes z + pixels z) new work
      left_is =
          let room = needed.room in
          put_part at (length one) one part (omega (arith, turn-long))
          ∙ ap₂ (λ u v. u ++ (part ++ v)) kept.before (drop_of_length-le one {i = length one} (le_of_eq refl))
          ∙ ap (take at work ++◌) (append-nil part ∙ part-is ∙ sym (append_assoc Q (replicate (pixels z) 0) (drop (at + (picture_bytes z + pixels z)) work)))

      pub seam_given : SeamGiven work from z how x at seam (found_cost found) (put_mid at (length one - at) one part) seam'
      unfolding seam_along cost_along
      seam_given =
          let all = picture_bytes z + pixels z in
          let room = needed.room in
          let same : Kept at (picture_bytes z + pixels z) work (put_at at (picture_bytes z + pixels z) new work) = put_kept at all new work new-long room in
          let h = t.height in
          let s = seam_of how t.width t.height (turned x z.width (picture_at z from work)) in
          let inside = along_inside how x z (picture_bytes z) (picture_at z from work) sized in
          let cost : found_cost found ≡ cost_of how t.width t.height (turned x z.width (picture_at z from work)) = there.cost ∙ ap (cost_of how t.width t.height) seen in
          let seam_is : seam' ≡ seam_of how t.width t.height (turned x z.width (picture_at z from work)) ++ drop t.height seam = there.seam_given ∙ ap (λ p. seam_of how t.width t.height p ++ drop t.height seam) seen in
          record {
            cost_is = cost;
            cost_most = rw there.cost (cost_small t how lent (sides_are t sides-t) (omega (arith, needed.room, lent-long, turned-bytes x z)) few);
            seam_is = ap (take h) seam_is ∙ take_at s (drop h seam) h (each-length inside);
            seam_long = ap length seam_is ∙ omega (arith, length-append s (drop h seam), each-length inside, length-drop h seam, needed.seam_room);
            turned_is =
                ap (λ w. take (picture_bytes z) (drop at w)) left_is
                ∙ ap (take (picture_bytes z)) (drop_at (take at work) (new ++ drop (at + all) work) at (length-take-le at work (omega arith)) ∙ append_assoc Q (replicate (pixels z) 0) (drop (at + all) work))
                ∙ take_at Q (replicate (pixels z) 0 ++ drop (at + all) work) (picture_bytes z) Q-long;
            long = ap length left_is ∙ same.long;
            others = λ a n apart. ap (part_at a n) left_is ∙ kept_part at all work (put_at at all new work) same a n apart;
          }
