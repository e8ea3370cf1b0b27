-- `seam_retarget::last_cell` meets its contract.
use mathlib.Core.Path.{◌≡◌, refl, ap, ◌∙◌}
use mathlib.Core.List.{List, ◌++◌}
use Prim.Native.Nat.{ℕ, ◌+◌, ◌*◌, ◌≤◌}
use native.Mathlib.Omega.{arith}
use borrow.Author.Rules.{rules}
use lib.ListN.{length, get_or, drop, replicate}
use Rattle.std.proofs.Common.{Fits, w8}
use Rattle.pictures.specs.declared.sizes.Size.{Size}
use Rattle.pictures.specs.Refusals.{refusal}
use Rattle.pictures.specs.Pictures.{picture_bytes, size_rules}
use Rattle.pictures.proofs.Limits.{sized_is, sides_served}
use Rattle.energy.specs.declared.methods.Method.{Method}
use Rattle.seam_retarget.specs.declared.table.Table.{Table}
use Rattle.seam_retarget.proofs.Answers.{no_totals, one-long, last_sure, first-needed, below-needed, served as answer}
use Rattle.seam_retarget.proofs.last_cell.Goals as goal

-- no totals yet
abbrev blank : List ℕ
blank = replicate 65 0

-- the table of a picture of its size
abbrev table_of : (b : List ℕ) (z : Size) → Method → refusal (size_rules z (length b)) ≡ 0 → Table
table_of b z how sized = record { size = record { size = z; allowed = sides_served z (length b) sized }; method = how; whole = length b; whole_is = (sized_is z (length b) sized).length_is }

pub first_row-requires : goal.first_row-requires
first_row-requires c =
    let a = c.args in
    let b = a.picture.now in
    first-needed _ b refl a.rows a.columns a.out.now a.work.now c.requires _ (ap (◌++ drop (length b) a.work.now) c.copy_from_slice.ensures.after) _ (no_totals 65)

pub rows_below-requires : goal.rows_below-requires
rows_below-requires c =
    let a = c.args in
    let b = a.picture.now in
    let one = c.first_row in
    below-needed _ b refl a.rows a.columns a.out.now a.work.now c.requires _ (ap (◌++ drop (length b) a.work.now) c.copy_from_slice.ensures.after)
    blank one.new.work one.new.totals (no_totals 65) one.ensures

pub slice_bounds-copy_from_slice-end-5 : goal.slice_bounds-copy_from_slice-end-5
slice_bounds-copy_from_slice-end-5 c =
    let a = c.args in
    let b = a.picture.now in
    let count = c.picture_bytes-count in
    let tab = table_of b a.size a.method c.requires.sized in
    let is = count.ensures.0 ∙ ap picture_bytes c.cell_size.ensures in
    let long = c.rows_below.ensures.long ∙ c.first_row.ensures.long ∙ one-long tab b refl a.rows a.columns a.out.now a.work.now c.requires _ (ap (◌++ drop (length b) a.work.now) c.copy_from_slice.ensures.after) in
    let sure = last_sure tab b refl a.rows a.columns a.out.now a.work.now c.requires count.result is in
    let inside : a.columns.0 * length b + count.result ≤ length c.rows_below.new.work = omega (arith, long, sure.inside) in
    search rules

pub returns : goal.returns
returns c =
    let a = c.args in
    let b = a.picture.now in
    let one = c.first_row in
    let two = c.rows_below in
    let count = c.picture_bytes-count in
    let fits : (i : ℕ) → Fits w8 (get_or two.new.work i 0) = search rules in
    answer _ b refl a.rows a.columns a.out.now a.work.now c.requires _ (ap (◌++ drop (length b) a.work.now) c.copy_from_slice.ensures.after)
    blank one.new.work one.new.totals (no_totals 65) one.ensures two.new.work two.new.totals two.ensures
    count.result (count.ensures.0 ∙ ap picture_bytes c.cell_size.ensures)
    (λ i. omega (arith, fits i)) _ c.clear.new.space (ap (◌++ drop count.result a.out.now) c.copy_from_slice-2.ensures.after) c.clear.ensures
