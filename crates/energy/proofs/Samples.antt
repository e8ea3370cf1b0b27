-- How far pixels are apart is the sum of how far their samples are; and rows that are worked out block by block.
use mathlib.Core.Path.{◌≡◌, refl, sym, ap, ap₂, ◌∙◌}
use mathlib.Core.List.{List, [], ◌∷◌, ◌++◌, append_assoc, append-nil}
use Prim.Native.Nat.{ℕ, zero, suc, ◌+◌, ◌-◌, ◌*◌, ◌≤◌, ◌<◌}
use native.Mathlib.Nat.{add-sub_cancel_left, add-mul, mul-le-mul_right}
use native.Mathlib.Omega.{arith}
use borrow.Rule.Slice.PartMut.{put_mid}
use lib.ListN.{length, take, drop, get_or, length-append, length-drop}
use lib.Seq.{length-take-le, drop_at, drop-drop, take_at}
use Rattle.std.specs.List.{sum}
use Rattle.std.proofs.lemmas.List.{take-append-drop}
use Rattle.std.proofs.lemmas.List.Sums.{fold-append}
use Rattle.grids.specs.Table.{table}
use Rattle.grids.specs.Rows.{row_at}
use Rattle.grids.proofs.Parts.{put_part}
use Rattle.grids.proofs.Rows.{part_end, row_at-before}
use Rattle.grids.proofs.Tables.{Stored, length-table, table_at, table_part, table_same}
use Rattle.energy.specs.Energy.{apart, difference}
use Rattle.energy.specs.Inner.{DistancesNeeded, StepRowsNeeded, sample_apart, sample_distance, two_sums, two_distances}

difference_snoc : (p q : List ℕ) (a b : ℕ) → length p ≡ length q → difference (p ++ (a ∷ [])) (q ++ (b ∷ [])) ≡ difference p q + apart a b
unfolding difference
difference_snoc [] [] a b e = omega arith
difference_snoc [] (y ∷ q) a b e = absurd (omega arith)
difference_snoc (x ∷ p) [] a b e = absurd (omega arith)
difference_snoc (x ∷ p) (y ∷ q) a b e = omega (arith, difference_snoc p q a b (omega arith))

sum_snoc : (xs : List ℕ) (x : ℕ) → sum (xs ++ (x ∷ [])) ≡ sum xs + x
sum_snoc xs x = fold-append ◌+◌ 0 xs (x ∷ [])

-- The sum of distances, and the distance of lists.
sum_is : (f g : ℕ → ℕ) (n : ℕ) → sum (table (λ k. apart (f k) (g k)) n) ≡ difference (table f n) (table g n)
unfolding difference
sum_is f g zero = refl
sum_is f g (suc n) =
    let s = sum_snoc (table (λ k. apart (f k) (g k)) n) (apart (f n) (g n)) in
    let d = difference_snoc (table f n) (table g n) (f n) (g n) (length-table f n ∙ sym (length-table g n)) in
    omega (arith, sum_is f g n, s, d)

-- So how far pixel k of row a is from that of row b is the sum of how far its samples are.
pub pixel_is : (n : ℕ) (a b : List ℕ) (k inner : ℕ) → k * n + n ≤ inner → inner ≤ length a → inner ≤ length b
    → sum (row_at n k (table (sample_apart a b) inner)) ≡ difference (row_at n k a) (row_at n k b)
pixel_is n a b k inner end in_a in_b =
    ap sum
    (table_part (table (sample_apart a b) inner) (k * n) n 0 (omega (arith, length-table (sample_apart a b) inner))
    ∙ table_same _ (λ i. sample_apart a b (k * n + i)) n (λ i m. table_at (sample_apart a b) inner (k * n + i) 0 (omega arith)))
    ∙ sum_is (λ i. get_or a (k * n + i) 0) (λ i. get_or b (k * n + i) 0) n
    ∙ ap₂ difference (sym (table_part a (k * n) n 0 (omega arith))) (sym (table_part b (k * n) n 0 (omega arith)))

-- The same of a row of pixels and two distances, as the loop over the pixels leaves it.
pub distances_are : (n : ℕ) (a b c d first second : List ℕ) (inner width : ℕ) {out : List ℕ} → out ≡ table (two_sums n first second) width
    → first ≡ table (sample_apart a b) inner → second ≡ table (sample_apart c d) inner → inner ≡ width * n → DistancesNeeded a b c d inner
    → out ≡ table (two_distances n a b c d) width
distances_are n a b c d first second inner width is in_first in_second long rows =
    is
    ∙ table_same _ (two_distances n a b c d) width
    (λ k l.
    let end : k * n + n ≤ inner = omega (arith, part_end k width n l, long) in
    ap₂ (λ x y. sum (row_at n k x) + sum (row_at n k y)) in_first in_second
    ∙ ap₂ ◌+◌ (pixel_is n a b k inner end rows.first rows.second) (pixel_is n c d k inner end rows.third rows.fourth))

-- In grey a sample is a pixel.
pub pixels_are : (a b c d : List ℕ) (width : ℕ) {out : List ℕ} → out ≡ table (sample_distance a b c d) width → DistancesNeeded a b c d width
    → out ≡ table (two_distances 1 a b c d) width
pixels_are a b c d width is rows =
    is
    ∙ table_same (sample_distance a b c d) (two_distances 1 a b c d) width
    (λ k l. ap₂ ◌+◌ (sym (one a b k l) ∙ pixel_is 1 a b k width (omega arith) rows.first rows.second) (sym (one c d k l) ∙ pixel_is 1 c d k width (omega arith) rows.third rows.fourth))
  where
    one : (x y : List ℕ) (k : ℕ) → k < width → sum (row_at 1 k (table (sample_apart x y) width)) ≡ sample_apart x y k
    one x y k l =
        let at : k * 1 + 0 ≡ k = omega arith in
        ap sum (table_part (table (sample_apart x y) width) (k * 1) 1 0 (omega (arith, length-table (sample_apart x y) width)))
        ∙ rw at (omega (arith, table_at (sample_apart x y) width k 0 l))

-- A table in two parts, and its front.
table_add : (f : ℕ → ℕ) (n m : ℕ) → table f n ++ table (λ k. f (n + k)) m ≡ table f (n + m)
table_add f n zero = let e : n + 0 ≡ n = omega arith in rw e (append-nil (table f n))
table_add f n (suc m) =
    let e : n + suc m ≡ suc (n + m) = omega arith in
    rw e
    (sym (append_assoc (table f n) (table (λ k. f (n + k)) m) (f (n + m) ∷ []))
    ∙ ap (◌++ (f (n + m) ∷ [])) (table_add f n m))

table_front : (f : ℕ → ℕ) (n m : ℕ) (rest : List ℕ) → take n (table f (n + m) ++ rest) ≡ table f n
table_front f n m rest =
    ap (λ x. take n (x ++ rest)) (sym (table_add f n m))
    ∙ ap (take n) (append_assoc (table f n) (table (λ k. f (n + k)) m) rest)
    ∙ take_at (table f n) (table (λ k. f (n + k)) m ++ rest) n (length-table f n)

-- A block of values is stored at `at`, up to which all are stored, as may be some of those in the block.
module _ (f : ℕ → ℕ) (d : List ℕ) (end done at size : ℕ) (out part : List ℕ) (from : at ≤ done) (to : done ≤ at + size) (fits : at + size ≤ end) where
  pub stored_block : part ≡ table (λ k. f (at + k)) size → Stored f d end done out → Stored f d end (at + size) (put_mid at (at + size - at) out part)
  stored_block is o = record {
    within = fits;
    all = o.all;
    is = whole;
    long = ap length whole ∙ omega (
      arith,
      length-append (table f (at + size)) (drop (at + size) d),
      length-table f (at + size),
      length-drop (at + size) d,
      o.all,
    );
  }
    where
      front : take at out ≡ table f at
      front =
          let e : at + (done - at) ≡ done = omega arith in
          ap (take at) (o.is ∙ ap (λ n. table f n ++ drop done d) (sym e)) ∙ table_front f at (done - at) (drop done d)

      rest : drop (at + size) out ≡ drop (at + size) d
      rest =
          let e : done + (at + size - done) ≡ at + size = omega arith in
          ap (λ n. drop n out) (sym e)
          ∙ sym (drop-drop (at + size - done) done out)
          ∙ ap (drop (at + size - done)) (ap (drop done) o.is ∙ drop_at (table f done) (drop done d) done (length-table f done))
          ∙ drop-drop (at + size - done) done d
          ∙ ap (λ n. drop n d) e

      whole : put_mid at (at + size - at) out part ≡ table f (at + size) ++ drop (at + size) d
      whole =
          put_part at (at + size) out part (omega arith)
          ∙ ap₂ ◌++◌ front (ap₂ ◌++◌ is rest)
          ∙ sym (append_assoc (table f at) (table (λ k. f (at + k)) size) (drop (at + size) d))
          ∙ ap (◌++ drop (at + size) d) (table_add f at size)

-- Pixel k of a block is pixel at + k of the row, whose samples are read from at * n on.
row_in_block : (n at k samples : ℕ) (x : List ℕ) → k * n + n ≤ samples → at * n + samples ≤ length x
    → row_at n k (take (at * n + samples - at * n) (drop (at * n) x)) ≡ row_at n (at + k) x
row_in_block n at k samples x end fits =
    let y : List ℕ = drop (at * n) x in
    ap (λ m. row_at n k (take m y)) (add-sub_cancel_left (at * n) samples)
    ∙ sym (row_at-before n k (take samples y) (drop samples y) (omega (arith, length-take-le samples y (omega (arith, length-drop (at * n) x)))))
    ∙ ap (row_at n k) (take-append-drop samples y)
    ∙ ap (take n) (drop-drop (k * n) (at * n) x ∙ ap (λ m. drop m x) (sym (add-mul at k n)))

-- So are the distances of a block those of the row.
abbrev block_of : ℕ → ℕ → ℕ → List ℕ → List ℕ
block_of n at samples x = take (at * n + samples - at * n) (drop (at * n) x)

pub block_distances : (n : ℕ) (a b c d : List ℕ) (at size samples width : ℕ) {out : List ℕ}
    → out ≡ table (two_distances n (block_of n at samples a) (block_of n at samples b) (block_of n at samples c) (block_of n at samples d)) size
    → samples ≡ size * n → at + size ≤ width → DistancesNeeded a b c d (width * n)
    → out ≡ table (λ k. two_distances n a b c d (at + k)) size
block_distances n a b c d at size samples width is many fits rows =
    is
    ∙ table_same _ (λ k. two_distances n a b c d (at + k)) size
    (λ k l.
    let e : k * n + n ≤ samples = omega (arith, part_end k size n l, many) in
    let here = λ (x : List ℕ) (h : width * n ≤ length x). row_in_block n at k samples x e (omega (arith, inside, h)) in
    ap₂ ◌+◌ (ap₂ difference (here a rows.first) (here b rows.second)) (ap₂ difference (here c rows.third) (here d rows.fourth)))
  where
    inside : at * n + samples ≤ width * n
    inside = omega (arith, add-mul at size n, mul-le-mul_right n fits, many)

-- By forward the distances are those of these rows.
module _ {n : ℕ} {before after above : List ℕ} {left up right : ℕ} (rows : StepRowsNeeded n before after above left up right) where
  pub left_rows : DistancesNeeded after before above before (left * n)
  left_rows = record { first = rows.after_long; second = rows.before_long; third = rows.above_long; fourth = rows.before_long }

  pub up_rows : DistancesNeeded after before before before (left * n)
  up_rows = record { first = rows.after_long; second = rows.before_long; third = rows.before_long; fourth = rows.before_long }

  pub right_rows : DistancesNeeded after before above after (left * n)
  right_rows = record { first = rows.after_long; second = rows.before_long; third = rows.above_long; fourth = rows.after_long }
