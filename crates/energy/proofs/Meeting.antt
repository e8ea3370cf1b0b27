-- By forward, in a picture in a buffer: a row's costs are the distances that are taken, of the row with its first and its last pixel once
-- more at its sides.
use mathlib.Core.Path.{◌≡◌, refl, sym, ap, ap₂, ◌∙◌}
use mathlib.Core.Logic.{⊎_elim}
use mathlib.Core.Bool.{false}
use mathlib.Core.Option
use mathlib.Core.Option.{map}
use mathlib.Core.List.{List}
use Prim.Native.Nat.{ℕ, suc, ◌+◌, ◌-◌, ◌*◌, ◌≤◌, ◌<◌}
use native.Mathlib.Nat.{suc-mul, add-zero, add-sub_cancel_left, le_of_eq}
use native.Mathlib.Omega.{arith}
use borrow.Author.Tests.{lt-ltb, le-ltb}
use lib.ListN.{length, take, drop}
use Rattle.grids.specs.Table.{table}
use Rattle.grids.specs.Rows.{row_at}
use Rattle.grids.proofs.Tables.{table_same}
use Rattle.grids.proofs.Orders.{le-or-lt}
use Rattle.grids.proofs.Rows.{part_end, length-row_at}
use Rattle.pictures.specs.Limits.{most_picture}
use Rattle.pictures.specs.declared.sizes.Size.{Size}
use Rattle.pictures.specs.Pictures.{Picture, channels_of, row_bytes, picture, pixel}
use Rattle.pictures.proofs.Limits.{Sized}
use Rattle.pictures.proofs.Buffers.{row_plain, pixel_plain}
use Rattle.energy.specs.declared.methods.Method.{Method}
use Rattle.energy.specs.Methods.{wrap_of}
use Rattle.energy.specs.Around.{Around, left_of, right_of, above_of, around}
use Rattle.energy.specs.Energy.{difference, away, left_or_it, right_or_it, across, forward, costs_from, one_cost, costs_at, energies}
use Rattle.energy.specs.Inner.{RowOf, StepsNeeded, befores, afters, across_of, left_of_row, right_of_row}
use Rattle.energy.proofs.Energy.{difference_self}
use Rattle.energy.proofs.Steps.{is_forward}
use Rattle.energy.proofs.Padded.{after, before_is, after_is}

-- The neighbours of a pixel in its row, or else the pixel itself: by their columns.
module _ (w h : ℕ) (p : Picture) (r c : ℕ) where
  pub left-it : left_or_it (around false w h p r c) ≡ pixel p r (c - 1)
  unfolding left_of
  left-it =
      ⊎_elim
      (λ (l : c ≤ 0). let none : c - 1 ≡ c = omega arith in rw (le-ltb 0 c l, none))
      (λ (l : 0 < c). rw (lt-ltb 0 c l))
      (le-or-lt c 0)

  pub right-it : right_or_it (around false w h p r c) ≡ pixel p r (after w c)
  unfolding right_of
  right-it =
      ⊎_elim
      (λ (l : w ≤ c + 1). rw (le-ltb (c + 1) w l))
      (λ (l : c + 1 < w). rw (lt-ltb (c + 1) w l))
      (le-or-lt w (c + 1))

-- The distances that are taken are the pixel's costs.
module _ (z : Size) (b : List ℕ) (sure : Sized z (length b)) (r c : ℕ) (inside : r < z.height) (here : c < z.width) where
  abbrev n : ℕ
  n = channels_of z.kind

  abbrev row : ℕ → List ℕ
  row i = row_at (row_bytes z) i b

  abbrev meeting : Around
  meeting = around false z.width z.height (picture z b) r c

  long : (i : ℕ) → i < z.height → length (row i) ≡ z.width * n
  long i l = length-row_at (row_bytes z) z.height b i (le_of_eq (sym sure.length_is)) l ∙ row_plain z

  before : row_at n c (befores n (row r)) ≡ left_or_it meeting
  before =
      before_is n z.width (row r) sure.width_some (long r inside) c here
      ∙ sym (left-it z.width z.height (picture z b) r c ∙ pixel_plain z b sure.length_is r (c - 1) inside)

  following : row_at n c (afters n (row r)) ≡ right_or_it meeting
  following =
      after_is n z.width (row r) sure.width_some (long r inside) c here
      ∙ sym (right-it z.width z.height (picture z b) r c ∙ pixel_plain z b sure.length_is r (after z.width c) inside)

  meet : difference (row_at n c (afters n (row r))) (row_at n c (befores n (row r))) ≡ across meeting
  meet = ap₂ difference following before

  pub across-is : across_of n (row r) c ≡ (forward meeting).up
  across-is = ap₂ ◌+◌ meet (difference_self (row_at n c (befores n (row r)))) ∙ add-zero (across meeting)

  -- Where there is a row above, the pixel in it meets the one at the side.
  module _ (later : 0 < r) where
    up-is : map (λ a. pixel (picture z b) a c) (above_of r) ≡ Option.some (row_at n c (row (r - 1)))
    unfolding above_of
    up-is = rw (lt-ltb 0 r later) (ap Option.some (pixel_plain z b sure.length_is (r - 1) c (omega arith)))

    pub left-is : left_of_row n (row r) (row (r - 1)) c ≡ (forward meeting).left
    left-is = ap₂ ◌+◌ meet (ap (difference (row_at n c (row (r - 1)))) before ∙ sym (ap (away (left_or_it meeting)) up-is))

    pub right-is : right_of_row n (row r) (row (r - 1)) c ≡ (forward meeting).right
    right-is = ap₂ ◌+◌ meet (ap (difference (row_at n c (row (r - 1)))) following ∙ sym (ap (away (right_or_it meeting)) up-is))

-- The same of whole rows, as the loops leave them: s bytes at r * s, and those before them.
module _ (z : Size) (b : List ℕ) (sure : Sized z (length b)) (r s : ℕ) (inside : r < z.height) (is : s ≡ row_bytes z) where
  abbrev lent : List ℕ
  lent = take (r * s + s - r * s) (drop (r * s) b)

  lent_is : lent ≡ row_at (row_bytes z) r b
  lent_is = rw (add-sub_cancel_left (r * s) s, is)

  pub short : length b ≤ most_picture
  short = omega (arith, sure.length_is, sure.picture_most)

  pub end : r * s + s ≤ length b
  end =
      let long : length b ≡ z.height * s = sure.length_is ∙ ap (z.height *◌) (sym is) in
      omega (arith, part_end r z.height s inside)

  pub lent-row : RowOf (channels_of z.kind) (take (r * s + s - r * s) (drop (r * s) b)) z.width
  lent-row = record {
    some = sure.width_some;
    narrow = sure.width_most;
    it_is = ap length lent_is ∙ length-row_at (row_bytes z) z.height b r (le_of_eq (sym sure.length_is)) inside ∙ row_plain z;
  }

  pub up-row : {width : ℕ} → width ≡ z.width
      → table (across_of (channels_of z.kind) (take (r * s + s - r * s) (drop (r * s) b))) width
      ≡ table (λ c. (forward (around false z.width z.height (picture z b) r c)).up) z.width
  up-row e = rw (lent_is, e) (table_same _ _ z.width (λ c l. across-is z b sure r c inside l))

  pub across-row : (how : Method) → one_cost how.energy ≡ false
      → table (across_of (channels_of z.kind) (take (r * s + s - r * s) (drop (r * s) b))) z.width ≡ energies how z.width z.height (picture z b) r
  unfolding costs_at costs_from wrap_of
  across-row how other = rw (is_forward how.energy other) (up-row refl)

  -- And those at the sides, where there is a row above: s bytes before it.
  module _ (later : 0 < r) where
    abbrev lent-above : List ℕ
    lent-above = take (r * s - (r * s - s)) (drop (r * s - s) b)

    before_it : r * s - s ≡ (r - 1) * row_bytes z
    before_it =
        let e : r ≡ suc (r - 1) = omega arith in
        let t : (r - 1) * s ≡ (r - 1) * row_bytes z = ap ((r - 1) *◌) is in
        omega (arith, ap (λ k. k * s) e, suc-mul (r - 1) s, t)

    pub above-end : s ≤ r * s
    above-end = let e : r ≡ suc (r - 1) = omega arith in omega (arith, ap (λ k. k * s) e, suc-mul (r - 1) s)

    lent-above_is : lent-above ≡ row_at (row_bytes z) (r - 1) b
    lent-above_is =
        let whole : r * s - (r * s - s) ≡ row_bytes z = omega (arith, above-end, is) in
        rw (whole, before_it)

    pub lent-steps : (left up right : ℕ) → left ≡ z.width → up ≡ z.width → right ≡ z.width
        → StepsNeeded (channels_of z.kind) (take (r * s + s - r * s) (drop (r * s) b)) (take (r * s - (r * s - s)) (drop (r * s - s) b)) left up right
    lent-steps left up right e f g = record {
      row = rw e lent-row;
      above_is = ap length lent-above_is ∙ length-row_at (row_bytes z) z.height b (r - 1) (le_of_eq (sym sure.length_is)) (omega arith) ∙ row_plain z ∙ ap (λ w. w * channels_of z.kind) (sym e);
      up_is = f ∙ sym e;
      right_is = g ∙ sym e;
    }

    pub left-row : {width : ℕ} → width ≡ z.width
        → table (left_of_row (channels_of z.kind) (take (r * s + s - r * s) (drop (r * s) b)) (take (r * s - (r * s - s)) (drop (r * s - s) b))) width
        ≡ table (λ c. (forward (around false z.width z.height (picture z b) r c)).left) z.width
    left-row e = rw (lent_is, lent-above_is, e) (table_same _ _ z.width (λ c l. left-is z b sure r c inside l later))

    pub right-row : {width : ℕ} → width ≡ z.width
        → table (right_of_row (channels_of z.kind) (take (r * s + s - r * s) (drop (r * s) b)) (take (r * s - (r * s - s)) (drop (r * s - s) b))) width
        ≡ table (λ c. (forward (around false z.width z.height (picture z b) r c)).right) z.width
    right-row e = rw (lent_is, lent-above_is, e) (table_same _ _ z.width (λ c l. right-is z b sure r c inside l later))
