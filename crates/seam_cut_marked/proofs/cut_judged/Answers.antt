-- `seam_cut_marked::cut_judged` meets its contract: `last_marked` gives 12 or 13 at the last column or row, and `cut_marked_along`
-- all else.
use Rattle.std.proofs.Common.{sym, ◌∙◌}
use Rattle.pictures.proofs.Rules.{kept_by}
use Rattle.seam_cut_marked.proofs.Buffers.{found, marked_needed}
use Rattle.seam_cut_marked.proofs.Cuts.{last_cleared, refused, left_number}
use Rattle.seam_cut_marked.proofs.cut_judged.Goals as goal

pub returns-then-takes_last : goal.returns-then-takes_last
returns-then-takes_last c =
    let a = c.args in
    let g = c.last_marked.ensures in
    record {
      cut =
          refused c.last_marked.result
          (g.number ∙ left_number a.method a.axis a.size a.picture.now a.marks.now a.seam.now a.work.now c.requires.none c.if-takes_last.ensures)
          (last_cleared _ _ g.number a.work.now);
      work_left = g.work_left ∙ kept_by c.last_marked.result _ _;
    }

pub cut_marked_along-requires : goal.cut_marked_along-requires
cut_marked_along-requires c = record { found = marked_needed c.requires.none; more = sym c.if-takes_last.ensures }

pub returns : goal.returns
returns c =
    let a = c.args in
    let g = c.cut_marked_along.ensures in
    let f = found c.requires.none g.found in
    record {
      cut = record {
        number = g.found.number ∙ left_number a.method a.axis a.size a.picture.now a.marks.now a.seam.now a.work.now c.requires.none c.if-takes_last.ensures;
        cost = f.cost;
        picture_left = g.picture_left;
        marks_left = g.marks_left;
        seam_given = f.seam_given;
        work_left = f.work_left;
      };
      work_left = g.work_left;
    }
