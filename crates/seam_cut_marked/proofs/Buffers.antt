-- What the rules of finding and cutting by marks say of the buffers, and what is given where `judge_marked` refuses them or not.
use Rattle.std.specs.Prelude.{Result, Ok, Err, is_ok}
use mathlib.Core.Path.{◌≡◌, refl, sym, ◌∙◌}
use mathlib.Core.Bool.{Bool, true, false, not, cond}
use mathlib.Core.List.{List, [], ◌∷◌, ◌++◌}
use Prim.Native.Nat.{ℕ}
use native.Mathlib.Omega.{arith}
use lib.Dec.{eqb}
use borrow.Author.Tests.{eqb-true, not-false}
use lib.ListN.{length, drop, replicate}
use Rattle.pictures.specs.declared.sizes.Size.{Size}
use Rattle.pictures.specs.declared.refusals.Refusal.{Refusal}
use Rattle.pictures.specs.Refusals.{◌when◌, number_of, refusal}
use Rattle.pictures.specs.Pictures.{size_rules, picture, pixels, marks_of}
use Rattle.pictures.proofs.Rules.{served-first, served-both, passed, number-some, refused_answer, kept_by, refusal-most}
use Rattle.energy.specs.declared.methods.Method.{Method}
use Rattle.seam_bounds.specs.Moves.{outside}
use Rattle.seam_rules.specs.Answers.{found_number}
use Rattle.seam_rules.specs.Axes.{turned_size}
use Rattle.seam_rules.specs.Cuts.{room_rules}
use Rattle.seam_rules.specs.declared.answers.Axis.{Axis}
use Rattle.pictures.proofs.Limits.{bytes-few}
use Rattle.seam_rules.proofs.Rooms.{find_room, work_as_was}
use Rattle.seam_find.proofs.Worked.{worked-or}
use Rattle.seam_cut_marked.specs.Axes.{marked_seam_along, marked_cost_along, blocked_along}
use Rattle.seam_cut_marked.specs.Marking.{mark_rules, FindMarkedGiven}
use Rattle.seam_cut_marked.specs.Inner.{judged, MarkedNeeded, MarkedSeamGiven}

module _ {how : Method} {x : Axis} {z : Size} {b m seam work : List ℕ} where
  -- What they refuse isn't found;
  pub not-found : (why : Refusal) → number_of why ≡ refusal (judged x z b m seam work) → FindMarkedGiven b m z how x seam work (Err why) seam work
  not-found why told =
      let rules = judged x z b m seam work in
      record {
        number = refused_answer {B = ℕ} (Err why) why refl rules (12 when blocked_along how x z (picture z b) (marks_of z m) ∷ []) told;
        cost = kept_by why (marked_cost_along how x z (picture z b) (marks_of z m)) 0;
        seam_given = kept_by why (marked_seam_along how x z (picture z b) (marks_of z m) ++ drop (turned_size x z).height seam) seam;
        work_left = work_as_was why (number_of why) refl (rw told (refusal-most 8 rules refl)) work;
      }

  -- of what they don't refuse the seam by the marks is found, or 12 is given.
  pub found : refusal (judged x z b m seam work) ≡ 0 → {answer : Result ℕ Refusal} {seam' : List ℕ} → MarkedSeamGiven b m z how x seam answer seam'
      → FindMarkedGiven b m z how x seam work answer seam' (replicate (length work) 0)
  found none g =
      let blocked = blocked_along how x z (picture z b) (marks_of z m) in
      record {
        number = g.number ∙ sym (served-first (judged x z b m seam work) (12 when blocked ∷ []) refl none);
        cost = g.cost;
        seam_given = g.seam_given;
        work_left = sym (worked-or _ (replicate (length work) 0) work blocked g.number);
      }

-- Buffers that nothing is refused of: what finding by them needs of the work space is less than 32 bytes a pixel.
pub marked_needed : {x : Axis} {z : Size} {b m seam work : List ℕ} → refusal (judged x z b m seam work) ≡ 0 → MarkedNeeded b m z x seam work
marked_needed {x} {z} {b} {m} {seam} {work} e =
    let parts = served-both (size_rules z (length b)) (mark_rules z m ++ room_rules x z (length seam) (length work)) refl e in
    let marks = served-both (mark_rules z m) (room_rules x z (length seam) (length work)) refl parts.1 in
    let long = passed (not (eqb (length m) (pixels z))) 3 (cond (outside 3 m) 5 0) marks.0 in
    let rooms = find_room x z (length b) (length seam) (length work) (served-first (size_rules z (length b)) (room_rules x z (length seam) (length work)) refl parts.0 ∙ marks.1) in
    record {
      sized = parts.0;
      marked = eqb-true _ _ (not-false (eqb (length m) (pixels z)) long.0);
      seam_room = rooms.seam_room;
      work_room = omega (arith, bytes-few z, rooms.work_room);
    }

-- Finding by marks gives a seam where one is allowed, and 12 where none is.
pub ok_free : (t : Bool) (answer : Result ℕ Refusal) → found_number answer ≡ cond t 12 0 → is_ok answer ≡ not t
ok_free true (Ok cost) n = absurd (omega (arith, n))
ok_free false (Ok cost) n = refl
ok_free true (Err why) n = refl
ok_free false (Err why) n = absurd (omega (arith, number-some why, n))
