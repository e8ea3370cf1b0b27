-- `map_build::carving::fill_columns` meets its contract: one row more, and all rows.
use mathlib.Core.Path.{◌≡◌, refl, ap, ◌∙◌}
use Prim.Native.Nat.{ℕ, ◌+◌, ◌-◌, ◌*◌, ◌≤◌, ◌<◌}
use native.Mathlib.Omega.{arith}
use borrow.Rule.Slice.PartMut.{mid_of, mid_len}
use lib.ListN.{length, get_or, take, replicate, length-replicate}
use lib.Seq.{length-take-le}
use Rattle.grids.specs.Table.{table}
use Rattle.grids.proofs.Tables.{length-table, table_at, table-past}
use mathlib.Core.Logic.{⊎_elim}
use Rattle.grids.proofs.Orders.{le-or-lt}
use Rattle.grids.proofs.Rows.{part_end}
use Rattle.pictures.specs.Pictures.{largest_side}
use Rattle.pictures.specs.Limits.{most_side}
use Rattle.pictures.specs.Numbers.{largest_number, pairs}
use Rattle.seam_planes.proofs.Numbers.{rows_put_turn, rows_put_end}
use Rattle.map_build.proofs.carving.fill_columns.Goals as goal

-- a row's room
room : (w : ℕ) → w ≤ most_side → length (take w (replicate {A = ℕ} largest_side 0)) ≡ w
room w l = length-take-le w (replicate {A = ℕ} largest_side 0) (omega (arith, l, length-replicate {A = ℕ} largest_side 0))

-- a column is a number of two bytes
small : (w : ℕ) → w ≤ most_side → (i : ℕ) → get_or (table (λ c. c) w) i 0 ≤ largest_number
small w l i =
    ⊎_elim
    (λ (p : w ≤ i). rw (table-past (λ c. c) w i 0 p) (omega arith))
    (λ (p : i < w). rw (table_at (λ c. c) w i 0 p) (omega (arith, l)))
    (le-or-lt w i)

pub loop-r-preserved : goal.loop-r-preserved
loop-r-preserved c =
    let a = c.args in
    let l = c.loop-r in
    let from = l.r * (2 * a.width) in
    let end = l.r * (2 * a.width) + 2 * a.width in
    let fits : l.r * (2 * a.width) + 2 * a.width ≤ length l.columns =
    omega (arith, part_end l.r a.height (2 * a.width) c.loop-r-test.true, l.invariant.long, c.requires.long) in
    let all : c.count.new.out ≡ table (λ c. c) a.width = c.count.ensures ∙ ap (table (λ c. c)) (room a.width c.requires.narrow) in
    let long : length (mid_of from (end - from) l.columns) ≡ 2 * length (table (λ c. c) a.width) =
    omega (arith, mid_len from end l.columns fits, length-table (λ c. c) a.width) in
    let put : c.put_numbers.new.row ≡ pairs (table (λ c. c) a.width) = c.put_numbers.ensures.put (rw all (long, small a.width c.requires.narrow)) ∙ ap pairs all in
    rows_put_turn (λ r. table (λ c. c) a.width) a.width a.height (λ i k. length-table (λ c. c) a.width) a.columns.now c.requires.long l.r _ _ l.columns c.put_numbers.new.row
    c.loop-r-test.true refl refl put l.invariant

pub returns-clause-all : goal.returns-clause-all
returns-clause-all c =
    let a = c.args in
    let l = c.loop-r in
    rows_put_end (λ r. table (λ c. c) a.width) a.width a.height (λ i k. length-table (λ c. c) a.width) a.columns.now c.requires.long l.r l.columns c.loop-r-test.false l.invariant
