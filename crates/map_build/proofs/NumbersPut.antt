-- A seam's number written into a map at the first columns of its pixels: what stands there are the columns that the map has left.
use mathlib.Core.Path.{◌≡◌, refl, sym, ap, ap₂, ◌∙◌}
use mathlib.Core.List.{List, [], ◌∷◌, map, zip_with, append-nil}
use Prim.Native.Nat.{ℕ, suc, ◌+◌, ◌*◌, ◌<◌}
use native.Mathlib.Omega.{arith}
use lib.ListN.{length, get_or, set, length-set}
use Rattle.grids.specs.Each.{Grid, none, more}
use Rattle.grids.specs.Rows.{rows_of, flat}
use Rattle.grids.proofs.Rows.{grid-rows_of, length-rows_of, rows_of-flat}
use Rattle.grids.proofs.Shapes.{get_or-map}
use Rattle.pictures.specs.Numbers.{low_byte, high_byte, numbers_in}
use Rattle.pictures.proofs.TwoBytes.{two_bytes_lem, numbers-set}
use Rattle.seam_planes.specs.Planes.{numbers_of}
use Rattle.seam_planes.proofs.Elements.{numbers_rows, number_at}
use Rattle.map_theory.proofs.Levels.{write_all}
use Rattle.map_theory.proofs.LeftColumns.{left_columns, write-left}
use Rattle.map_build.specs.Inner.Columns.{number_in, put_pair, put_rows}

-- The number of row r and column c is the plane's.
pub number_is : (m h : ℕ) (plane : List ℕ) (r c : ℕ) → length plane ≡ h * (2 * m) → r < h → c < m
    → number_in m plane r c ≡ get_or (get_or (numbers_of m h plane) r []) c 0
number_is m h plane r c e l k = sym (number_at m h plane r c e l k)

-- A number put into a row in bytes is put into the row.
pub numbers_put : (v c : ℕ) (row : List ℕ) → numbers_in (put_pair v c row) ≡ set (numbers_in row) c v
numbers_put v c row = numbers-set row c (low_byte v) (high_byte v) ∙ ap (set (numbers_in row) c) (two_bytes_lem v)

length_put : (v c : ℕ) (row : List ℕ) → length (put_pair v c row) ≡ length row
length_put v c row = length-set (set row (2 * c) (low_byte v)) (2 * c + 1) (high_byte v) ∙ length-set row (2 * c) (low_byte v)

-- In every row: the rows are as long as before,
put-grid : (v : ℕ) {w h : ℕ} (cs : List ℕ) {p : List (List ℕ)} → length cs ≡ h → Grid w h p → Grid w h (zip_with (put_pair v) cs p)
unfolding zip_with
put-grid v [] e none = none
put-grid v (c ∷ cs) e none = absurd (omega arith)
put-grid v [] e (more l g) = absurd (omega arith)
put-grid v (c ∷ cs) e (more {x = x} l g) = more (length_put v c x ∙ l) (put-grid v cs (omega arith) g)

-- and of a map read row by row each is written where the seam's column counts out.
module _ (v m : ℕ) where
  rows-written : (s cs : List ℕ) (p : List (List ℕ)) → length s ≡ length p → length cs ≡ length p
      → ((r : ℕ) → r < length p → (get_or s r 0 < length (left_columns (numbers_in (get_or p r [])))) × (get_or cs r 0 ≡ get_or (left_columns (numbers_in (get_or p r []))) (get_or s r 0) 0))
      → map numbers_in (zip_with (put_pair v) cs p) ≡ write_all v s (map numbers_in p)
  unfolding zip_with write_all
  rows-written [] [] [] e k at = refl
  rows-written (c ∷ s) (a ∷ cs) (x ∷ p) e k at =
      ap₂ ◌∷◌
      (numbers_put v a x ∙ ap (λ i. set (numbers_in x) i v) (at 0 (omega arith)).1 ∙ sym (write-left v c (numbers_in x) (at 0 (omega arith)).0))
      (rows-written s cs p (omega arith) (omega arith) (λ r l. at (suc r) (omega arith)))
  rows-written [] (a ∷ cs) [] e k at = absurd (omega arith)
  rows-written (c ∷ s) cs [] e k at = absurd (omega arith)
  rows-written [] cs (x ∷ p) e k at = absurd (omega arith)
  rows-written (c ∷ s) [] (x ∷ p) e k at = absurd (omega arith)

-- So the map with the number put at the first columns is the map with the number written.
pub put-written : (v m h : ℕ) (s cs b : List ℕ) → length b ≡ h * (2 * m) → length s ≡ h → length cs ≡ h
    → ((r : ℕ) → r < h → (get_or s r 0 < length (left_columns (get_or (numbers_of m h b) r []))) × (get_or cs r 0 ≡ get_or (left_columns (get_or (numbers_of m h b) r [])) (get_or s r 0) 0))
    → numbers_of m h (put_rows v m cs b) ≡ write_all v s (numbers_of m h b)
put-written v m h s cs b e p q at =
    let rows : List (List ℕ) = rows_of (2 * m) h b in
    let n : length rows ≡ h = length-rows_of (2 * m) h b in
    let whole : numbers_of m h b ≡ map numbers_in rows = numbers_rows m h b in
    let put : Grid (2 * m) h (zip_with (put_pair v) cs rows) = put-grid v cs q (grid-rows_of (2 * m) h b (omega (arith, e))) in
    ap (λ k. numbers_of m h (flat (zip_with (put_pair v) cs (rows_of (2 * m) k b)))) q
    ∙ numbers_rows m h (flat (zip_with (put_pair v) cs rows))
    ∙ ap (map numbers_in) (ap (rows_of (2 * m) h) (sym (append-nil (flat (zip_with (put_pair v) cs rows)))) ∙ rows_of-flat [] put)
    ∙ rows-written v m s cs rows (omega (arith, p, n)) (omega (arith, q, n)) (λ r l. here whole r (omega (arith, l, n)))
    ∙ ap (write_all v s) (sym whole)
  where
    here : numbers_of m h b ≡ map numbers_in (rows_of (2 * m) h b) → (r : ℕ) → r < h
        → (get_or s r 0 < length (left_columns (numbers_in (get_or (rows_of (2 * m) h b) r []))))
        × (get_or cs r 0 ≡ get_or (left_columns (numbers_in (get_or (rows_of (2 * m) h b) r []))) (get_or s r 0) 0)
    here whole r l =
        let row : get_or (numbers_of m h b) r [] ≡ numbers_in (get_or (rows_of (2 * m) h b) r []) =
        ap (λ p. get_or p r []) whole ∙ get_or-map numbers_in (rows_of (2 * m) h b) r [] [] (omega (arith, l, length-rows_of (2 * m) h b)) in
        rw row at (at r l)
