-- `seam_close::rows::close_rows` meets its contract. The loop's invariant: r rows are closed and stand at the front of the
-- picture, and after them stands what stood there.
use mathlib.Core.Path.{◌≡◌, refl, ◌∙◌}
use mathlib.Core.List.{List, ◌++◌}
use Prim.Native.Nat.{ℕ, ◌+◌, ◌-◌, ◌*◌, ◌≤◌}
use native.Mathlib.Omega.{arith}
use borrow.Rule.Slice.PartMut.{same_len_mid, mid_len}
use borrow.Author.Rules.{rules}
use lib.ListN.{length, take, drop, length-append, length-drop}
use lib.Seq.{length-take-le}
use Rattle.pictures.specs.Pictures.{largest_side}
use Rattle.seam_close.proofs.Closing.{sure, row_sure, row_turn, rows_end}
use Rattle.seam_close.proofs.rows.close_rows.Goals as goal

-- the line is as long as it was when its front has been copied over
long : (s : ℕ) (front line : List ℕ) → length front ≡ length (take s line) → s ≤ length line → length (front ++ drop s line) ≡ length line
long s front line same h = omega (arith, length-append front (drop s line), length-drop s line, length-take-le s line h)

pub slice_bounds-copy_from_slice-end-in-loop-r : goal.slice_bounds-copy_from_slice-end-in-loop-r
slice_bounds-copy_from_slice-end-in-loop-r c =
    let s = c.args.width * c.args.n in
    let u = row_sure c.requires c.loop-r.r (omega arith) in
    let inside : c.loop-r.r * s + s ≤ length c.loop-r.rows = omega (arith, u.end, c.loop-r.invariant.long) in
    search rules

pub close_row-requires : goal.close_row-requires
close_row-requires c =
    let n = c.args.n in
    let q = sure c.requires in
    let u = row_sure c.requires c.loop-r.r (omega arith) in
    let w = u.gap in
    let s = c.args.width * n in
    let line = c.copy_from_slice.new.self ++ drop s c.loop-r.line in
    let whole : length line ≡ 6 * largest_side = long s c.copy_from_slice.new.self c.loop-r.line c.copy_from_slice.auto.self (omega (arith, c.requires.line)) ∙ c.loop-r.invariant.line_long in
    let front = length-take-le s line (omega (arith, c.requires.line)) in
    let dest = c.loop-r.r * (s - n) in
    let rows = c.loop-r.rows in
    record { inside = omega arith; room = omega (arith, mid_len dest (length rows) rows (omega arith)) }

pub loop-r-preserved : goal.loop-r-preserved
loop-r-preserved c =
    let n = c.args.n in
    let head = c.loop-r in
    let s = c.args.width * n in
    let dest = head.r * (s - n) in
    let q = sure c.requires in
    record {
      within = omega arith;
      long = same_len_mid dest (length head.rows - dest) head.rows c.close_row.new.out c.close_row.auto.out ∙ head.invariant.long;
      line_long = long s c.copy_from_slice.new.self head.line c.copy_from_slice.auto.self (omega (arith, c.requires.line)) ∙ head.invariant.line_long;
      closed =
          row_turn c.requires head.r _ _ head.rows _ _ head.line c.close_row.new.out (omega arith) head.invariant.long head.invariant.closed
          c.copy_from_slice.ensures.after refl refl refl c.close_row.ensures;
    }

pub returns : goal.returns
returns c =
    let e : c.loop-r.r ≡ length c.args.seam.now = omega arith in
    rows_end c.requires c.loop-r.rows c.clear.new.space c.loop-r.invariant.long
    (rw e at c.loop-r.invariant.closed) c.clear.ensures
