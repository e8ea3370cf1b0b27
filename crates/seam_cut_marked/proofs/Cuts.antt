-- What a cut by marks gives where `judge_marked` refuses it, where 12 or 13 does, and where it is made: with the work space cleared,
-- and with it left.
use Rattle.std.specs.Prelude.{Result, Err}
use mathlib.Core.Path.{◌≡◌, refl, sym, ap, ◌∙◌}
use mathlib.Core.Bool.{Bool, true, false, cond}
use mathlib.Core.List.{List, ◌∷◌, ◌++◌}
use Prim.Native.Nat.{ℕ}
use lib.ListN.{length, drop, replicate}
use Rattle.pictures.specs.declared.sizes.Size.{Size}
use Rattle.pictures.specs.declared.refusals.Refusal.{Refusal}
use Rattle.pictures.specs.Refusals.{◌when◌, number_of, refusal, worked}
use Rattle.pictures.specs.Pictures.{picture, marks_of}
use Rattle.pictures.proofs.Rules.{served-first, refused_answer, kept_by, number-some, refusal-most}
use Rattle.energy.specs.declared.methods.Method.{Method}
use Rattle.seam_rules.specs.declared.answers.Axis.{Axis}
use Rattle.seam_rules.specs.Answers.{found_number}
use Rattle.seam_rules.specs.Axes.{turned_size}
use Rattle.seam_rules.specs.Cuts.{cleared, last_along, last_rules}
use Rattle.seam_rules.proofs.Rooms.{work_as_was}
use Rattle.seam_find.proofs.Worked.{worked_not}
use Rattle.seam_cut.specs.Cutting.{closed_along}
use Rattle.seam_cut_marked.specs.Axes.{marked_seam_along, marked_cost_along, blocked_along}
use Rattle.seam_cut_marked.specs.Marking.{closed_marks, marked_cut_rules, CutMarkedGiven, CutUnclearedGiven}
use Rattle.seam_cut_marked.specs.Inner.{judged, CutJudgedGiven}

-- After 12 and 13, as after success, what was worked with counts.
cut_worked : {A : Type 0} (stuck last : Bool) (n : ℕ) → n ≡ cond stuck 12 (cond last 13 0) → (x y : A) → worked n x y ≡ x
cut_worked true last n e x y = rw e
cut_worked false true n e x y = rw e
cut_worked false false n e x y = rw e

-- At the last column or row the work space is zero.
pub last_cleared : (t : Bool) (n : ℕ) → n ≡ cond t 12 13 → (work : List ℕ) → replicate (length work) 0 ≡ cleared n work
last_cleared t n e work = sym (cut_worked t true n e (replicate (length work) 0) work)

-- Where a rule of picture, marks and spaces applies, it gives the number of a cut too, and where none does, 12 and 13 are left.
module _ (how : Method) (x : Axis) (z : Size) (b m seam work : List ℕ) where
  number_is : (why : Refusal) → number_of why ≡ refusal (judged x z b m seam work) → number_of why ≡ refusal (marked_cut_rules how x z b m (length seam) (length work))
  number_is why told =
      refused_answer {B = ℕ} (Err why) why refl (judged x z b m seam work)
      (12 when blocked_along how x z (picture z b) (marks_of z m) ∷ last_rules x z)
      told

  pub left_number : refusal (judged x z b m seam work) ≡ 0 → {t : Bool} → t ≡ last_along x z
      → cond (blocked_along how x z (picture z b) (marks_of z m)) 12 (cond t 13 0) ≡ refusal (marked_cut_rules how x z b m (length seam) (length work))
  left_number none is =
      let stuck = blocked_along how x z (picture z b) (marks_of z m) in
      ap (λ t. cond stuck 12 (cond t 13 0)) is ∙ sym (served-first (judged x z b m seam work) (12 when stuck ∷ last_rules x z) refl none)

module _ {how : Method} {x : Axis} {z : Size} {b m seam work : List ℕ} where
  -- What a refusal leaves.
  pub refused : {work' : List ℕ} (why : Refusal) → number_of why ≡ refusal (marked_cut_rules how x z b m (length seam) (length work))
      → work' ≡ cleared (number_of why) work → CutMarkedGiven b m z how x seam work (Err why) b m seam work'
  refused why number work_left =
      let gone = marked_seam_along how x z (picture z b) (marks_of z m) in
      record {
        number = number;
        cost = kept_by why (marked_cost_along how x z (picture z b) (marks_of z m)) 0;
        picture_left = kept_by why (closed_along x z gone b) b;
        marks_left = kept_by why (closed_marks x z gone m) m;
        seam_given = kept_by why (gone ++ drop (turned_size x z).height seam) seam;
        work_left = work_left;
      }

  -- Where a rule of picture, marks and spaces applies, nothing is written.
  module _ (why : Refusal) (told : number_of why ≡ refusal (judged x z b m seam work)) where
    pub not_cut : CutMarkedGiven b m z how x seam work (Err why) b m seam work
    not_cut = refused why (number_is how x z b m seam work why told) (work_as_was why (number_of why) refl (rw told (refusal-most 8 (judged x z b m seam work) refl)) work)

    pub not-cut_uncleared : CutUnclearedGiven b m z how x seam work (Err why) b m seam work
    not-cut_uncleared =
        record {
          cut = refused why (number_is how x z b m seam work why told) refl;
          work_left = sym (worked_not (number_of why) _ work (number-some why) (rw told (refusal-most 8 (judged x z b m seam work) refl)));
        }

  -- Where none does, the work space is left as it was worked in.
  module _ (none : refusal (judged x z b m seam work) ≡ 0) where
    pub uncleared : {answer : Result ℕ Refusal} {b' m' seam' work' : List ℕ} → CutJudgedGiven b m z how x seam work answer b' m' seam' work'
        → CutUnclearedGiven b m z how x seam work answer b' m' seam' work'
    uncleared {answer} g =
        record {
          cut = rw g.cut.work_left at g.cut;
          work_left =
              g.work_left
              ∙ sym (cut_worked (blocked_along how x z (picture z b) (marks_of z m)) (last_along x z) (found_number answer) (g.cut.number ∙ sym (left_number how x z b m seam work none refl)) _ work);
        }
