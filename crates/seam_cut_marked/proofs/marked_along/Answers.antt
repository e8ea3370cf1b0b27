-- `seam_cut_marked::marked_along` meets its contract: both turnings are served, and the seam is found in the picture and the marks
-- that then stand at the front of the work space.
use Rattle.pictures.specs.declared.refusals.Refusal.{Refusal}
use Rattle.std.specs.Prelude.{Result, IsOk}
use Rattle.std.proofs.Common.{◌≡◌, List, ◌++◌, ℕ, ◌+◌, ◌-◌, ◌≤◌, cond, length, take, drop, replicate, sym, ap, ap₂, ◌∙◌, append_assoc, take_at, arith}
use mathlib.Core.List.{append-nil}
use lib.Seq.{drop_at, drop-drop, drop-length}
use borrow.Rule.Slice.PartMut.{put_mid, mid_of, same_len_mid}
use Rattle.grids.specs.Rows.{flat}
use Rattle.grids.proofs.Parts.{part_length, last_part}
use Rattle.pictures.specs.declared.sizes.Size.{Size}
use Rattle.pictures.specs.Refusals.{served}
use Rattle.pictures.specs.Pictures.{picture_bytes, picture, bytes, pixels, marks_of, picture_in, marks_in}
use Rattle.pictures.proofs.Limits.{Sized, sized_is}
use Rattle.energy.specs.declared.methods.Method.{Method}
use Rattle.seam_theory.specs.PictureSeams.{marked_up, marked_seam_of, marked_cost_of, is_none}
use Rattle.seam_rules.specs.declared.answers.Axis.{Axis}
use Rattle.seam_rules.specs.Answers.{found_number}
use Rattle.seam_rules.specs.Axes.{turned_size, grey_of}
use Rattle.seam_rules.proofs.Turns.{turned-bytes, turned-pixels, turned-sides}
use Rattle.seam_turn.specs.Axes.{turned}
use Rattle.seam_turn.specs.Turning.{TurnGiven}
use Rattle.seam_turn.proofs.Served.{turn_served}
use Rattle.seam_turn.proofs.Answered.{turn_ok}
use Rattle.seam_find_marked.specs.Finding.{FindMarkedInGiven}
use Rattle.seam_cut_marked.specs.Axes.{marked_seam_along, marked_cost_along, blocked_along}
use Rattle.seam_cut_marked.specs.Marking.{searched}
use Rattle.seam_cut_marked.specs.Inner.{MarkedNeeded}
use Rattle.seam_cut_marked.proofs.Marked.{MarkedThere, marked_served}
use Rattle.seam_cut_marked.proofs.Marks.{grey-bytes, grey-sized, put_after, picture_there, marks_there}
use Rattle.seam_cut_marked.proofs.Standing.{front-long, both-long}
use Rattle.seam_cut_marked.proofs.marked_along.Goals as goal

-- What is lent; what turning the picture leaves in the work space.
module _ (b m : List ℕ) (z : Size) (x : Axis) (seam work : List ℕ) (p : MarkedNeeded b m z x seam work)
    (v : Result Unit Refusal) (front : List ℕ) (turns : TurnGiven b z x work v front) (front_kept : length front ≡ length work) where
  sure : Sized z (length b)
  sure = sized_is _ _ p.sized

  turned_ok : IsOk v
  turned_ok = turn_ok b z x work front v turns p.sized (omega (arith, p.work_room))

  -- the picture turned stands at the front of the work space, with room for the marks
  fits : length b + (pixels z + pixels z) ≤ length front
  fits = omega (arith, sure.length_is, p.work_room, front_kept)

  turned_is : front ≡ bytes z.kind (turned x z.width (picture z b)) ++ drop (picture_bytes z) work
  turned_is = turn_served b z x work front v turns p.sized (omega (arith, p.work_room))

  -- what turning the marks leaves after it
  module _ (u : Result Unit Refusal) (marks : List ℕ) (turns-marks : TurnGiven m (grey_of z) x (mid_of (length b) (length front - length b) front) u marks)
      (marks_kept : length marks ≡ length (mid_of (length b) (length front - length b) front)) where
    after_fits : picture_bytes (grey_of z) ≤ length (mid_of (length b) (length front - length b) front)
    after_fits = omega (arith, grey-bytes z, part_length (length b) (length front) front (omega arith), fits)

    marks_ok : IsOk u
    marks_ok = turn_ok m (grey_of z) x (mid_of (length b) (length front - length b) front) marks u turns-marks (grey-sized z (length b) m sure p.marked) after_fits

    -- and then the marks turned stand after it
    space : List ℕ
    space = put_mid (length b) (length front - length b) front marks

    after : List ℕ
    after = drop (picture_bytes (grey_of z)) (mid_of (length b) (length front - length b) front) ++ drop (length front) front

    stands : space ≡ bytes z.kind (turned x z.width (picture z b)) ++ (flat (turned x z.width (marks_of z m)) ++ after)
    unfolding space after
    stands =
        let n = length b in
        let mid = mid_of n (length front - n) front in
        let back = turn_served m (grey_of z) x mid marks u turns-marks (grey-sized z n m sure p.marked) after_fits in
        put_after x z b m work front mid marks sure.length_is p.marked (omega (arith, fits)) turned_is back

    space-long : length space ≡ length work
    unfolding space
    space-long = same_len_mid (length b) (length front - length b) front marks marks_kept ∙ front_kept

    there : (how : Method) (answer : Result ℕ Refusal) (space' seam' : List ℕ) → FindMarkedInGiven space (turned_size x z) how seam answer space' seam'
        → MarkedThere space (turned_size x z) how seam answer space' seam'
    there how answer space' seam' given =
        marked_served space (turned_size x z) how seam answer space' seam' given
        (turned-sides x z (length b) sure) p.seam_room
        (omega (arith, turned-bytes x z, turned-pixels x z, p.work_room, space-long))

    -- finding leaves both, zeros where the ways were, and the rest as it was
    abbrev picture_turned : List ℕ
    picture_turned = bytes z.kind (turned x z.width (picture z b))

    abbrev marks_turned : List ℕ
    marks_turned = flat (turned x z.width (marks_of z m))

    after-is : after ≡ drop (picture_bytes z + pixels z) work
    unfolding after
    after-is =
        ap₂ (λ y rest. drop (picture_bytes (grey_of z)) y ++ rest) (last_part (length b) front) (drop-length front)
        ∙ append-nil (drop (picture_bytes (grey_of z)) (drop (length b) front))
        ∙ drop-drop (picture_bytes (grey_of z)) (length b) front
        ∙ ap₂ drop (ap₂ ◌+◌ sure.length_is (grey-bytes z)) turned_is
        ∙ sym (drop-drop (pixels z) (picture_bytes z) (picture_turned ++ drop (picture_bytes z) work))
        ∙ ap (drop (pixels z)) (drop_at picture_turned (drop (picture_bytes z) work) (picture_bytes z) (front-long x z b m sure.length_is p.marked))
        ∙ drop-drop (pixels z) (picture_bytes z) work

    there-is : space ≡ (picture_turned ++ marks_turned) ++ after
    there-is = stands ∙ sym (append_assoc picture_turned marks_turned after)

    rest-is : drop (picture_bytes z + (pixels z + pixels z)) space ≡ drop (picture_bytes z + (pixels z + pixels z)) work
    rest-is =
        let e : picture_bytes z + (pixels z + pixels z) ≡ picture_bytes z + pixels z + pixels z = omega arith in
        rw e (
        sym (drop-drop (pixels z) (picture_bytes z + pixels z) space)
        ∙ ap (drop (pixels z))
        (ap (drop (picture_bytes z + pixels z)) there-is ∙ drop_at (picture_turned ++ marks_turned) after (picture_bytes z + pixels z) (both-long x z b m sure.length_is p.marked) ∙ after-is)
        ∙ drop-drop (pixels z) (picture_bytes z + pixels z) work
        )

    left-is : (space' : List ℕ)
        → space' ≡ take (picture_bytes (turned_size x z) + pixels (turned_size x z)) space
        ++ (replicate (pixels (turned_size x z)) 0 ++ drop (picture_bytes (turned_size x z) + (pixels (turned_size x z) + pixels (turned_size x z))) space)
        → space' ≡ searched x z b m work
    left-is space' e =
        e
        ∙ ap₂ (λ i j. take (i + j) space ++ (replicate j 0 ++ drop (i + (j + j)) space)) (turned-bytes x z) (turned-pixels x z)
        ∙ ap₂ (λ f r. f ++ (replicate (pixels z) 0 ++ r))
        (ap (take (picture_bytes z + pixels z)) there-is ∙ take_at (picture_turned ++ marks_turned) after (picture_bytes z + pixels z) (both-long x z b m sure.length_is p.marked)) rest-is
        ∙ append_assoc picture_turned marks_turned (replicate (pixels z) 0 ++ drop (picture_bytes z + (pixels z + pixels z)) work)

    seen : picture_in (turned_size x z) space ≡ turned x z.width (picture z b)
    seen = picture_there x z b m space after sure.length_is p.marked stands

    marks-seen : marks_in (turned_size x z) space ≡ turned x z.width (marks_of z m)
    marks-seen = marks_there x z b m space after sure.length_is p.marked stands

pub returns : goal.returns
unfolding marked_seam_along marked_cost_along blocked_along space after
returns c =
    let a = c.args in
    let b = a.picture.now in
    let m = a.marks.now in
    let x = a.axis in
    let z = a.size in
    let how = a.method in
    let t = turned_size x z in
    let room = a.seam.now in
    let work = a.work.now in
    let p = c.requires in
    let v = c.turn.result in
    let front = c.turn.new.to in
    let u = c.turn-2.result in
    let marks = c.turn-2.new.to in
    let f = c.find_marked_in in
    let kept = c.turn.auto.to in
    let marks_kept = c.turn-2.auto.to in
    let turns = c.turn.ensures in
    let turns-marks : TurnGiven m (grey_of z) x (mid_of (length b) (length front - length b) front) u marks =
    rw c.grey-marked.ensures at c.turn-2.ensures
    in
    let given : FindMarkedInGiven (space b m z x room work p v front turns kept u marks turns-marks marks_kept)
    t how room f.result f.new.space f.new.seam =
    rw c.turned_size-turned.ensures at f.ensures
    in
    let g = there b m z x room work p v front turns kept u marks turns-marks marks_kept how f.result f.new.space f.new.seam given in
    let q = seen b m z x room work p v front turns kept u marks turns-marks marks_kept in
    let r = marks-seen b m z x room work p v front turns kept u marks turns-marks marks_kept in
    let k = found_number f.result in
    record {
      found = record {
        number = g.number ∙ ap₂ (λ q r. cond (is_none (marked_up how t.width t.height q r)) 12 0) q r;
        cost = g.cost ∙ ap₂ (λ q r. served k (marked_cost_of how t.width t.height q r) 0) q r;
        seam_given = g.seam_given ∙ ap₂ (λ q r. served k (marked_seam_of how t.width t.height q r ++ drop t.height room) room) q r;
      };
      work_left = left-is b m z x room work p v front turns kept u marks turns-marks marks_kept f.new.space g.left;
    }
