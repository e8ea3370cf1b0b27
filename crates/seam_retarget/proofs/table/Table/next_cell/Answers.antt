-- `seam_retarget::table::Table::next_cell` meets its contract: both seams are found, then the one of the smaller total is cut.
use mathlib.Core.Path.{refl, sym, ◌∙◌}
use Prim.Native.Nat.{◌+◌}
use native.Mathlib.Omega.{arith}
use lib.ListN.{length}
use Rattle.pictures.specs.Pictures.{largest_side}
use Rattle.seam_rules.proofs.Choices.{vertical_taken, horizontal_taken}
use Rattle.seam_retarget.proofs.Choosing.{seam-vertical, seam-horizontal, cut-vertical, cut-horizontal, given-vertical, given-horizontal}
use Rattle.seam_retarget.proofs.table.Table.next_cell.Goals as goal

pub find-requires : goal.find-requires
find-requires c =
    let a = c.args in
    let p = c.requires in
    let up = c.seam-horizontal.ensures in
    rw (up.size_is, up.axis_is, up.at_is)
    (seam-horizontal a.self (length a.work.now) p.space (a.columns.0 + 1) a.rows.0 (a.columns.0 + 1) largest_side p.column (omega (arith, p.rows_left)) p.columns_left refl)

pub find-requires-2 : goal.find-requires-2
find-requires-2 c =
    let a = c.args in
    let p = c.requires in
    let left = c.seam-vertical.ensures in
    rw (left.size_is, left.axis_is, left.at_is, c.find.ensures.long)
    (seam-vertical a.self (length a.work.now) p.space a.columns.0 (a.rows.0 + 1) a.columns.0 largest_side (omega (arith, p.column)) p.rows_left (omega (arith, p.columns_left)) refl)

pub cut-requires : goal.cut-requires
cut-requires c = cut-vertical c.args.self c.requires c.seam-horizontal.ensures c.seam-vertical.ensures c.find.ensures c.find-2.ensures c.find-2.ensures.seam_long

pub cut-requires-in-Horizontal : goal.cut-requires-in-Horizontal
cut-requires-in-Horizontal c = cut-horizontal c.args.self c.requires c.seam-horizontal.ensures c.seam-vertical.ensures c.find.ensures c.find-2.ensures c.find.ensures.seam_long

pub returns-in-Vertical : goal.returns-in-Vertical
returns-in-Vertical c =
    given-vertical c.args.self c.requires c.seam-horizontal.ensures c.seam-vertical.ensures c.find.ensures c.find-2.ensures
    (vertical_taken _ _ (sym c.smaller_total.ensures ∙ c.in-Vertical.is)) c.cut.ensures

pub returns-in-Horizontal : goal.returns-in-Horizontal
returns-in-Horizontal c =
    given-horizontal c.args.self c.requires c.seam-horizontal.ensures c.seam-vertical.ensures c.find.ensures c.find-2.ensures
    (horizontal_taken _ _ (sym c.smaller_total.ensures ∙ c.in-Horizontal.is)) c.cut-in-Horizontal.ensures
