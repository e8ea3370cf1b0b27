-- A horizontal cut: of the exchanged picture, and back.
use mathlib.Core.Path.{◌≡◌, refl, sym, ap, ◌∙◌}
use mathlib.Core.Bool.{not, cond}
use Rattle.std.specs.Prelude.{Result}
use mathlib.Core.List.{List, [], ◌∷◌, ◌++◌, append_assoc}
use Prim.Native.Nat.{ℕ, suc, ◌+◌, ◌-◌, ◌*◌, ◌≤◌, ◌<◌}
use native.Mathlib.Nat.{mul_left_comm, mul-add, suc-mul}
use native.Mathlib.Omega.{arith}
use lib.Dec.{eqb}
use borrow.Author.Tests.{eqb-true, eqb-false, not-false}
use lib.ListN.{length, take, drop, replicate}
use lib.Seq.{take_at, length-take-le}
use Rattle.grids.specs.Each.{Each}
use Rattle.grids.specs.Exchange.{exchange}
use Rattle.grids.specs.Cut.{cut}
use Rattle.grids.proofs.Orders.{more_than_one}
use Rattle.grids.proofs.Exchange.{exchange-each}
use Rattle.grids.proofs.Cut.{cut_narrower}
use Rattle.pictures.specs.declared.sizes.Size.{Size}
use Rattle.pictures.specs.declared.refusals.Refusal.{Refusal}
use Rattle.pictures.specs.Refusals.{◌when◌, given, refusal}
use Rattle.pictures.specs.Pictures.{Picture, pixel_bytes, picture_bytes, side_rules, size_rules, picture, bytes, picture_in, OfSize}
use Rattle.pictures.proofs.Rules.{served-both, passed}
use Rattle.pictures.proofs.Limits.{Sized, sized_is, sized-served, sides_of}
use Rattle.pictures.proofs.Buffers.{picture-of_size, picture_bytes_lem, length-bytes}
use Rattle.seam_bounds.specs.Moves.{outside}
use Rattle.seam_moves.specs.Moving.{ExchangeGiven}
use Rattle.seam_close.specs.Closing.{CloseGiven}
use Rattle.seam_bounds.proofs.Moving.{inside_each}
use Rattle.seam_moves.proofs.Served.{exchange_none, exchange-served}
use Rattle.seam_close.proofs.Served.{close_served}
use Rattle.seam_rules.specs.declared.answers.Axis.TheVariants.{Horizontal}
use Rattle.seam_rules.specs.Axes.{turned_size, narrowed}
use Rattle.seam_rules.proofs.Turns.{turned-bytes, turned-sides}
use Rattle.seam_turn.specs.Axes.{turned}
use Rattle.seam_turn.specs.Turning.{turned_in}

-- A seam that closing up doesn't refuse lies inside the picture, which has more than one column.
pub record Inside (z : Size) (s : List ℕ) : Type 0 where
  pub wide : 1 < z.width
  pub inside : Each (λ c. c < z.width) z.height s

pub close_inside : (b : List ℕ) (z : Size) (s b' : List ℕ) (v : Result (Unit {0}) Refusal) → CloseGiven b z s v b' → given v ≡ 0 → Inside z s
close_inside b z s b' v g e =
    let ends = 10 when outside z.width s ∷ 13 when eqb z.width 1 ∷ [] in
    let parts = served-both (size_rules z (length b)) (4 when not (eqb (length s) z.height) ∷ 10 when outside z.width s ∷ 13 when eqb z.width 1 ∷ []) refl (sym g.number ∙ e) in
    let four = passed (not (eqb (length s) z.height)) 3 (cond (outside z.width s) 10 (cond (eqb z.width 1) 13 0)) parts.1 in
    let ten = passed (outside z.width s) 9 (cond (eqb z.width 1) 13 0) four.1 in
    let last = passed (eqb z.width 1) 12 0 ten.1 in
    let long : length s ≡ z.height = eqb-true _ _ (not-false (eqb (length s) z.height) four.0) in
    record {
      wide = more_than_one z.width (sized_is z (length b) parts.0).width_some (eqb-false _ _ last.0);
      inside = rw long at (inside_each z.width s ten.0);
    }

-- The exchanged picture at the front of a work space, and what the cut leaves of it.
abbrev pub over_of : Size → List ℕ → Picture
over_of z work = picture_in (turned_size Horizontal z) work

abbrev pub rest_of : Size → List ℕ → List ℕ → Picture
rest_of z work s = cut s (over_of z work)

module _ (z : Size) (b s work : List ℕ) (sized : Sized z (length b)) (room : picture_bytes z ≤ length work) where
  abbrev t : Size
  t = turned_size Horizontal z

  abbrev left : Size
  left = narrowed (turned_size Horizontal z)

  front-long : length (take (picture_bytes t) work) ≡ picture_bytes t
  front-long = length-take-le (picture_bytes t) work (omega (arith, turned-bytes Horizontal z, room))

  over_of_lem : OfSize t (over_of z work)
  over_of_lem = picture-of_size t (take (picture_bytes t) work) front-long

  -- What is lent for closing up is the exchanged picture.
  pub front_is : take (length b) work ≡ take (picture_bytes t) work
  front_is = ap (λ n. take n work) (sized.length_is ∙ sym (turned-bytes Horizontal z))

  pub front-sized : refusal (size_rules t (length (take (length b) work))) ≡ 0
  front-sized = rw (ap length front_is ∙ front-long) (sized-served t (turned-sides Horizontal z (length b) sized))

  -- With more than one row, and a seam inside the picture.
  module _ (is : Inside (turned_size Horizontal z) s) where
    rest_of_lem : OfSize left (rest_of z work s)
    rest_of_lem = cut_narrower z.height is.wide is.inside over_of_lem

    pub left-bytes : picture_bytes left + z.width * pixel_bytes z.kind ≡ length b
    left-bytes =
        let ch = pixel_bytes z.kind in
        let one : z.height ≡ suc (z.height - 1) = omega (arith, is.wide) in
        omega (
          arith,
          sized.length_is,
          mul_left_comm z.height z.width ch,
          ap (λ h. z.width * (h * ch)) one,
          ap (z.width *◌) (suc-mul (z.height - 1) ch),
          mul-add z.width ((z.height - 1) * ch) ch,
        )

    pub left-sides : refusal (side_rules left) ≡ 0
    left-sides = sides_of left (omega (arith, is.wide)) (omega (arith, sized.height_most)) sized.width_some sized.width_most

    -- After the exchanged picture was closed up.
    module _ (front : List ℕ) (u : Result (Unit {0}) Refusal) (c : CloseGiven (take (length b) work) t s u front) where
      pub closed_is : front ≡ bytes z.kind (rest_of z work s) ++ replicate (z.width * pixel_bytes z.kind) 0
      closed_is =
          close_served (take (length b) work) t s front u c front-sized is.inside is.wide
          ∙ ap (λ k. bytes z.kind (cut s (picture t k)) ++ replicate (z.width * pixel_bytes z.kind) 0) front_is

      pub kept-is : (after : List ℕ) → take (picture_bytes left) (front ++ after) ≡ bytes z.kind (rest_of z work s)
      kept-is after =
          let ends = replicate (z.width * pixel_bytes z.kind) 0 ++ after in
          ap (λ x. take (picture_bytes left) (x ++ after)) closed_is
          ∙ ap (take (picture_bytes left)) (append_assoc (bytes z.kind (rest_of z work s)) (replicate (z.width * pixel_bytes z.kind) 0) after)
          ∙ take_at (bytes z.kind (rest_of z work s)) ends (picture_bytes left) (length-bytes left (rest_of z work s) rest_of_lem)

    -- After it was exchanged back.
    module _ (from to to' : List ℕ) (v : Result (Unit {0}) Refusal) (g : ExchangeGiven from left to v to') (e : from ≡ bytes z.kind (rest_of z work s)) (fits : picture_bytes left ≤ length to) where
      from-sized : refusal (size_rules left (length from)) ≡ 0
      from-sized = rw (ap length e ∙ length-bytes left (rest_of z work s) rest_of_lem) (sized-served left left-sides)

      pub back_none : given v ≡ 0
      back_none = exchange_none from left to to' v g from-sized fits

      pub back_is : take (picture_bytes left) to' ≡ bytes z.kind (turned Horizontal left.width (cut s (turned_in Horizontal z b work)))
      unfolding turned turned_in
      back_is =
          let c = exchange left.width (rest_of z work s) in
          let long : length (bytes z.kind (exchange left.width (rest_of z work s))) ≡ picture_bytes left = length-bytes (turned_size Horizontal left) (exchange left.width (rest_of z work s)) (exchange-each rest_of_lem) ∙ turned-bytes Horizontal left in
          ap (take (picture_bytes left))
          (exchange-served from left to to' v g from-sized fits
          ∙ ap (λ p. bytes z.kind (exchange left.width p) ++ drop (picture_bytes left) to) (ap (picture left) e ∙ picture_bytes_lem left (rest_of z work s) rest_of_lem))
          ∙ take_at (bytes z.kind (exchange left.width (rest_of z work s))) (drop (picture_bytes left) to) (picture_bytes left) long
