-- `seam_turn::close` meets its contract. Where the lengths are served, a vertical seam is closed up as the picture stands, a
-- horizontal one by `close_columns`.
use mathlib.Core.Path.{◌≡◌, refl, sym, ap, ◌∙◌}
use mathlib.Core.List.{List, ◌∷◌, ◌++◌}
use Prim.Native.Nat.{◌*◌}
use borrow.Author.Rules.{rules}
use Rattle.std.specs.Prelude.{Err}
use lib.ListN.{length, replicate}
use Rattle.grids.specs.Cut.{cut}
use Rattle.pictures.specs.Refusals.{Rule, ◌when◌, given, refusal}
use Rattle.pictures.specs.Pictures.{pixel_bytes, bytes}
use Rattle.pictures.proofs.Rules.{refused_answer, refused-kept}
use Rattle.seam_bounds.specs.Moves.{outside}
use Rattle.seam_rules.specs.declared.answers.Axis.TheVariants.{Vertical}
use Rattle.seam_rules.specs.Axes.{turned_size, narrowed}
use Rattle.seam_rules.specs.Cuts.{last_rules, close_along_lengths}
use Rattle.seam_rules.proofs.Rooms.{close_room}
use Rattle.seam_turn.specs.Axes.{turned}
use Rattle.seam_turn.specs.Turning.{turned_in, left_work}
use Rattle.seam_turn.proofs.Served.{close_number, work_kept}
use Rattle.seam_turn.proofs.close.Goals as goal

pub returns-in_err-judge_close_along : goal.returns-in_err-judge_close_along
returns-in_err-judge_close_along c =
    let a = c.args in
    let b = a.picture.now in
    let s = a.seam.now in
    let v = c.from_residual.result in
    let why = c.in_err-judge_close_along.field-0.0 in
    let is : v ≡ Err why = search rules in
    -- the rules of the lengths, and those of the seam
    let first : List Rule = close_along_lengths a.axis a.size (length b) (length s) (length a.work.now) in
    let last : List Rule = 10 when outside (turned_size a.axis a.size).width s ∷ last_rules a.axis a.size in
    let number : given v ≡ refusal first = ap given is ∙ c.in_err-judge_close_along.ensures in
    record {
      number = refused_answer v why is first last number;
      picture_left = refused-kept v why is (bytes a.size.kind (turned a.axis (narrowed (turned_size a.axis a.size)).width (cut s (turned_in a.axis a.size b a.work.now))) ++ replicate ((turned_size a.axis a.size).height * pixel_bytes a.size.kind) 0) b;
      work_left = work_kept a.axis a.size s v why is a.work.now;
    }

pub returns-in-Vertical : goal.returns-in-Vertical
unfolding turned turned_in left_work
returns-in-Vertical c =
    let a = c.args in
    let n = length a.picture.now in
    let s = a.seam.now in
    let work = length a.work.now in
    let lengths : refusal (close_along_lengths Vertical a.size n (length s) work) ≡ 0 = rw c.in-Vertical.is at (sym c.in_ok-judge_close_along.ensures) in
    rw c.in-Vertical.is
    (record {
      number = c.close_up.ensures.number ∙ close_number Vertical a.size n s work lengths n (close_room Vertical a.size n (length s) work lengths).sized;
      picture_left = c.close_up.ensures.picture_left;
      work_left = refl;
    })

pub returns-in-Horizontal : goal.returns-in-Horizontal
returns-in-Horizontal c = rw c.in-Horizontal.is c.close_columns.ensures
