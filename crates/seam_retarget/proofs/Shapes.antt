-- What every cell of the table is: a picture of its size, of samples that are bytes, with a total that stays small.
use mathlib.Core.Path.{◌≡◌, sym, subst}
use mathlib.Core.Bool.{Bool, true, false, cond}
use mathlib.Core.List.{List, []}
use Prim.Native.Nat.{ℕ, zero, suc, ◌+◌, ◌-◌, ◌*◌, ◌≤◌, ◌<◌}
use native.Mathlib.Nat.{mul-le-mul_right}
use native.Mathlib.Omega.{arith}
use lib.Dec.{leb}
use lib.ListN.{length, get_or}
use Rattle.grids.specs.Each.{Each, none, more}
use Rattle.grids.specs.Cut.{cut}
use Rattle.grids.proofs.Exchange.{exchange-each}
use Rattle.grids.proofs.Cut.{cut_narrower}
use Rattle.pictures.specs.declared.sizes.Size.{Size}
use Rattle.pictures.specs.Refusals.{refusal}
use Rattle.pictures.specs.Pictures.{Picture, channels_of, picture_bytes, side_rules, OfSize, pixel}
use Rattle.pictures.proofs.Limits.{Sides, sides_are}
use Rattle.energy.specs.declared.methods.Method.{Method}
use Rattle.energy.specs.Bounds.{most_energy, most_cost}
use Rattle.energy.proofs.Most.{costs-within, costs-most}
use Rattle.seam_rules.specs.declared.answers.Axis.{Axis}
use Rattle.seam_rules.specs.declared.answers.Axis.TheVariants.{Vertical, Horizontal}
use Rattle.seam_rules.specs.Axes.{turned_size, narrowed}
use Rattle.seam_turn.specs.Axes.{turned, cut_along}
use Rattle.seam_cut.specs.Axes.{seam_along, cost_along}
use Rattle.seam_rules.proofs.Turns.{turned-sides}
use Rattle.seam_cut.proofs.Inside.{along_inside}
use Rattle.seam_retarget.specs.Cells.{Cell, by_seam, chosen, cell}
use Rattle.seam_rules.specs.declared.answers.Rows.{Rows}
use Rattle.seam_rules.specs.declared.answers.Columns.{Columns}
use Rattle.seam_rules.specs.Counts.{smaller, largest_count, left_size}
use Rattle.seam_retarget.specs.Inner.Seams.{left_along}
use Rattle.seam_retarget.proofs.Numbered.{cell_at, cell-numbers}
use Rattle.seam_retarget.proofs.Costs.{cost_bound}
use Rattle.seam_retarget.proofs.Steps.{sized_at}
use Rattle.seam_rules.proofs.Left.{smaller-sides}

-- A picture of this size whose pixels all have P.
abbrev pub Of : (List ℕ → Type 0) → Size → Picture → Type 0
Of P z p = Each (Each P z.width) z.height p

module _ (P : List ℕ → Type 0) where
  turned_of : (x : Axis) (z : Size) (p : Picture) → Of P z p → Of P (turned_size x z) (turned x z.width p)
  unfolding turned
  turned_of Vertical z p o = o
  turned_of Horizontal z p o = exchange-each o

  -- By a seam, a row or a column less.
  by_of : (how : Method) (x : Axis) (z : Size) (k : Cell) → refusal (side_rules z) ≡ 0 → 1 < (turned_size x z).width → Of P z k.picture → Of P (left_along x z) (by_seam how x z k).picture
  unfolding by_seam cut_along
  by_of how x z k s wide o =
      let t = turned_size x z in
      let p = k.picture in
      turned_of x (narrowed (turned_size x z)) (cut (seam_along how x z p) (turned x z.width p))
      (cut_narrower t.width wide (along_inside how x z (picture_bytes z) p (sized_at z s)) (turned_of x z p o))

  chosen_of : (z : Size) (v h : Cell) → Of P z v.picture → Of P z h.picture → Of P z (chosen v h).picture
  unfolding chosen
  chosen_of z v h a b = go (leb v.total h.total)
    where
      go : (t : Bool) → Of P z (cond t v h).picture
      go true = a
      go false = b

  less-column_of : (z : Size) (r c : ℕ) (q : Picture) → Of P (left_along Vertical (smaller z r c)) q → Of P (smaller z r (suc c)) q
  less-column_of z r c q o = let e : z.width - c - 1 ≡ z.width - suc c = omega arith in rw e at o

  less-row_of : (z : Size) (r c : ℕ) (q : Picture) → Of P (left_along Horizontal (smaller z r c)) q → Of P (smaller z (suc r) c) q
  less-row_of z r c q o = let e : z.height - r - 1 ≡ z.height - suc r = omega arith in rw e at o

  -- Each cell has the pixels of the picture, r rows and c columns less.
  module _ (how : Method) (z : Size) (p : Picture) (s : refusal (side_rules z) ≡ 0) (o : Of P z p) where
    pub cell-of : (r c : ℕ) → r < z.height → c < z.width → Of P (smaller z r c) (cell_at how z p r c).picture
    unfolding cell_at
    cell-of zero zero h w =
        let a : z.width - 0 ≡ z.width = omega arith in
        let b : z.height - 0 ≡ z.height = omega arith in
        rw (a, b) o
    cell-of zero (suc c) h w =
        less-column_of z 0 c (by_seam how Vertical (smaller z 0 c) (cell_at how z p 0 c)).picture
        (by_of how Vertical (smaller z 0 c) (cell_at how z p 0 c) (smaller-sides z 0 c s h (omega arith)) (omega arith) (cell-of zero c h (omega arith)))
    cell-of (suc r) zero h w =
        less-row_of z r 0 (by_seam how Horizontal (smaller z r 0) (cell_at how z p r 0)).picture
        (by_of how Horizontal (smaller z r 0) (cell_at how z p r 0) (smaller-sides z r 0 s (omega arith) w) (omega arith) (cell-of r zero (omega arith) w))
    cell-of (suc r) (suc c) h w =
        chosen_of (smaller z (suc r) (suc c)) (by_seam how Vertical (smaller z (suc r) c) (cell_at how z p (suc r) c)) (by_seam how Horizontal (smaller z r (suc c)) (cell_at how z p r (suc c)))
        (less-column_of z (suc r) c (by_seam how Vertical (smaller z (suc r) c) (cell_at how z p (suc r) c)).picture
        (by_of how Vertical (smaller z (suc r) c) (cell_at how z p (suc r) c) (smaller-sides z (suc r) c s h (omega arith)) (omega arith) (cell-of (suc r) c h (omega arith))))
        (less-row_of z r (suc c) (by_seam how Horizontal (smaller z r (suc c)) (cell_at how z p r (suc c))).picture
        (by_of how Horizontal (smaller z r (suc c)) (cell_at how z p r (suc c)) (smaller-sides z r (suc c) s (omega arith) w) (omega arith) (cell-of r (suc c) (omega arith) w)))

-- "To remove r rows and c columns": the cell's picture has the size m - c by n - r.
pub cell-of_size : (how : Method) (z : Size) (p : Picture) → refusal (side_rules z) ≡ 0 → OfSize z p → (rows : Rows) (columns : Columns) → rows.0 < z.height → columns.0 < z.width
    → OfSize (left_size z rows columns) (cell how z p rows columns).picture
cell-of_size how z p s o rows columns h w =
    subst (λ (k : Cell). OfSize (left_size z rows columns) k.picture) (sym (cell-numbers how z p rows columns))
    (cell-of (λ x. length x ≡ channels_of z.kind) how z p s o rows.0 columns.0 h w)

-- A pixel of ch samples, each a byte.
pub record Bytes (channels : ℕ) (x : List ℕ) : Type 0 where
  pub many : length x ≤ channels
  pub small : (k : ℕ) → get_or x k 0 ≤ 255

-- What holds of each element and of the default holds everywhere.
each_any_at : {A : Type 0} {P Q : A → Type 0} {n : ℕ} {xs : List A} (d : A) → Q d → ((x : A) → P x → Q x) → Each P n xs → (i : ℕ) → Q (get_or xs i d)
each_any_at d z h none i = z
each_any_at d z h (more {x = x} p e) zero = h x p
each_any_at d z h (more p e) (suc i) = each_any_at d z h e i

pixel-bytes : (ch : ℕ) (z : Size) (p : Picture) → Of (Bytes ch) z p → (r c : ℕ) → Bytes ch (pixel p r c)
pixel-bytes ch z p o r c =
    each_any_at {Q = λ row. (c : ℕ) → Bytes ch (get_or row c [])} [] (λ c. blank) (λ row e c. each_any_at [] blank (λ x b. b) e c) o r c
  where
    blank : Bytes ch []
    blank = record { many = omega arith; small = λ k. omega arith }

-- The cost of a seam along either axis.
cost_most : (how : Method) (ch : ℕ) → ch ≤ 3 → (x : Axis) (z : Size) (p : Picture) → refusal (side_rules z) ≡ 0 → Of (Bytes ch) z p → cost_along how x z p ≤ most_cost
unfolding cost_along
cost_most how ch few x z p s o =
    let t = turned_size x z in
    let q = turned x z.width p in
    let sides : Sides (turned_size x z) = sides_are t (turned-sides x z (picture_bytes z) (sized_at z s)) in
    let b = pixel-bytes ch t q (turned_of (Bytes ch) x z p o) in
    cost_bound how t.width t.height q sides.width_some sides.height_some sides.height_small
    (λ r c. costs-within (2 * (ch * 255)) most_energy _ (omega (arith, mul-le-mul_right 255 few)) (costs-most ch 255 q (λ r c. (b r c).many) (λ r c. (b r c).small) how t.width t.height r c))

-- The total of r + c seams: at most 128 of them, it fits 64 bits.
module _ (how : Method) (z : Size) (p : Picture) (s : refusal (side_rules z) ≡ 0) (ch : ℕ) (few : ch ≤ 3) (o : Of (Bytes ch) z p) where
  by_most : (x : Axis) (r c m : ℕ) → r < z.height → c < z.width → (cell_at how z p r c).total ≤ m → (by_seam how x (smaller z r c) (cell_at how z p r c)).total ≤ m + most_cost
  unfolding by_seam
  by_most x r c m h w l = omega (arith, cost_most how ch few x (smaller z r c) (cell_at how z p r c).picture (smaller-sides z r c s h w) (cell-of (Bytes ch) how z p s o r c h w))

  pub total-most : (r c : ℕ) → r < z.height → c < z.width → (cell_at how z p r c).total ≤ (r + c) * most_cost
  unfolding cell_at chosen
  total-most zero zero h w = omega arith
  total-most zero (suc c) h w = omega (arith, by_most Vertical 0 c ((0 + c) * most_cost) h (omega arith) (total-most zero c h (omega arith)))
  total-most (suc r) zero h w = omega (arith, by_most Horizontal r 0 ((r + 0) * most_cost) (omega arith) w (total-most r zero (omega arith) w))
  total-most (suc r) (suc c) h w =
      less (by_seam how Vertical (smaller z (suc r) c) (cell_at how z p (suc r) c)) (by_seam how Horizontal (smaller z r (suc c)) (cell_at how z p r (suc c)))
      (omega (arith, by_most Vertical (suc r) c ((suc r + c) * most_cost) h (omega arith) (total-most (suc r) c h (omega arith))))
      (omega (arith, by_most Horizontal r (suc c) ((r + suc c) * most_cost) (omega arith) w (total-most r (suc c) (omega arith) w)))
    where
      less : (u v : Cell) → u.total ≤ (suc r + suc c) * most_cost → v.total ≤ (suc r + suc c) * most_cost → (chosen u v).total ≤ (suc r + suc c) * most_cost
      less u v a b = go (leb u.total v.total)
        where
          go : (t : Bool) → (cond t u v).total ≤ (suc r + suc c) * most_cost
          go true = a
          go false = b

  pub total-fits : (rows : Rows) (columns : Columns) → rows.0 < z.height → columns.0 < z.width → rows.0 ≤ largest_count → columns.0 ≤ largest_count
      → (cell how z p rows columns).total < 18446744073709551616
  total-fits rows columns h w k l =
      subst (λ (c : Cell). c.total < 18446744073709551616) (sym (cell-numbers how z p rows columns)) (omega (arith, total-most rows.0 columns.0 h w))
