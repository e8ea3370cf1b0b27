-- `map_build::numbering::number_rows` meets its contract: one row more, and the rows done.
use mathlib.Core.Path.{◌≡◌, refl, sym, ap, ◌∙◌}
use mathlib.Core.List.{List}
use Prim.Native.Nat.{ℕ, ◌+◌, ◌-◌, ◌*◌, ◌<◌, ◌≤◌}
use native.Mathlib.Omega.{arith}
use lib.ListN.{length, get_or}
use borrow.Rule.Slice.PartMut.{mid_of, same_len_mid, mid_len}
use Rattle.grids.proofs.Rows.{part_end}
use Rattle.grids.proofs.Tables.{length-table, table_at}
use Rattle.map_build.specs.Inner.Columns.{number_in, taken_columns, put_pair}
use Rattle.map_build.proofs.Turns.{rows_step, rows_done}
use Rattle.map_build.proofs.numbering.number_rows.Goals as goal

-- as many columns as the seam has
long : (m : ℕ) (plane s : List ℕ) → length (taken_columns m plane s) ≡ length s
long m plane s = length-table (λ r. number_in m plane r (get_or s r 0)) (length s)

-- the row ends within the map
inside : (r w : ℕ) (seam map : List ℕ) → length map ≡ length seam * (2 * w) → r < length seam → r * (2 * w) + 2 * w ≤ length map
inside r w seam map e l = omega (arith, part_end r (length seam) (2 * w) l, e)

pub loop-r-preserved : goal.loop-r-preserved
loop-r-preserved c =
    let a = c.args in
    let l = c.loop-r in
    let m = c.put_number in
    let columns = taken_columns a.stride a.columns.now a.seam.now in
    let from = l.r * (2 * a.stride) in
    let end = l.r * (2 * a.stride) + 2 * a.stride in
    let fits : l.r * (2 * a.stride) + 2 * a.stride ≤ length l.map =
    omega (arith, inside l.r a.stride a.seam.now a.map.now c.requires.map_long c.loop-r-test.true, l.invariant.0) in
    let first : c.number-first.result ≡ get_or columns l.r 0 =
    c.number-first.ensures.0 ∙ sym (table_at (λ r. number_in a.stride a.columns.now r (get_or a.seam.now r 0)) (length a.seam.now) l.r 0 c.loop-r-test.true) in
    let is : m.new.row ≡ put_pair a.number (get_or columns l.r 0) (mid_of from (end - from) l.map) = m.ensures ∙ ap (λ k. put_pair a.number k (mid_of from (end - from) l.map)) first in
    let rows : l.r < length columns = omega (arith, c.loop-r-test.true, long a.stride a.columns.now a.seam.now) in (
      same_len_mid from (end - from) l.map m.new.row m.auto.row ∙ l.invariant.0,
      rows_step (put_pair a.number) 0 columns _ (2 * a.stride) l.r from end l.map m.new.row rows refl refl fits is (m.auto.row ∙ mid_len from end l.map fits ∙ omega arith) l.invariant.1,
    )

pub returns : goal.returns
returns c =
    let a = c.args in
    let l = c.loop-r in
    let columns = taken_columns a.stride a.columns.now a.seam.now in
    let many : length columns ≡ length a.seam.now = long a.stride a.columns.now a.seam.now in
    let last : l.r ≡ length a.seam.now = omega arith in
    let whole : length l.map ≡ l.r * (2 * a.stride) = l.invariant.0 ∙ c.requires.map_long ∙ ap (◌* (2 * a.stride)) (sym last) in
    rows_done (put_pair a.number) 0 columns _ (2 * a.stride) l.r l.map (omega (arith, many)) (omega (arith, whole)) l.invariant.1
