-- What hosts see of one seam, found or cut, without marks and with them: what the operation of the same name gives at the size,
-- the method and the axis that the host names.
use Rattle.std.specs.Prelude.{◌≡◌, List, ◌++◌, ℕ, length, drop}
use Rattle.pictures.specs.Refusals.{refusal, served}
use Rattle.pictures.specs.Pictures.{picture, marks_of}
use Rattle.seam_rules.specs.Axes.{turned_size}
use Rattle.seam_rules.specs.Cuts.{cleared, find_rules, cut_rules}
use Rattle.seam_cut.specs.Axes.{seam_along, cost_along}
use Rattle.seam_cut.specs.Cutting.{closed_along}
use Rattle.seam_cut_marked.specs.Axes.{marked_seam_along, marked_cost_along}
use Rattle.seam_cut_marked.specs.Marking.{marked_find_rules, marked_cut_rules, closed_marks}
use Rattle.export_answers.specs.declared.answers.Answer.{Answer}
use Rattle.export_answers.specs.declared.names.HostSize.{HostSize}
use Rattle.export_answers.specs.declared.names.HostMethod.{HostMethod}
use Rattle.export_answers.specs.Named.{seaming_of, all}

-- Finding: the number; the seam's cost; the seam, after which its space is kept; and the work space.
pub record HostFindGiven (b : List ℕ) (size : HostSize) (method : HostMethod) (axis : ℕ) (seam work : List ℕ) (a : Answer) (seam' work' : List ℕ) : Type 0 where
  pub number :
      a.number ≡ all (seaming_of size method axis)
      (λ z how x. refusal (find_rules x z (length b) (length seam) (length work)))
      1
  pub value :
      a.value ≡ all (seaming_of size method axis)
      (λ z how x. served a.number (cost_along how x z (picture z b)) 0)
      0
  pub seam_given :
      seam' ≡ all (seaming_of size method axis)
      (λ z how x. served a.number (seam_along how x z (picture z b) ++ drop (turned_size x z).height seam) seam)
      seam
  pub work_left : work' ≡ cleared a.number work

-- Cutting gives the same, and leaves the picture without the seam.
pub record HostCutGiven (b : List ℕ) (size : HostSize) (method : HostMethod) (axis : ℕ) (seam work : List ℕ) (a : Answer) (b' seam' work' : List ℕ) : Type 0 where
  pub number :
      a.number ≡ all (seaming_of size method axis)
      (λ z how x. refusal (cut_rules x z (length b) (length seam) (length work)))
      1
  pub value :
      a.value ≡ all (seaming_of size method axis)
      (λ z how x. served a.number (cost_along how x z (picture z b)) 0)
      0
  pub picture_left :
      b' ≡ all (seaming_of size method axis)
      (λ z how x. served a.number (closed_along x z (seam_along how x z (picture z b)) b) b)
      b
  pub seam_given :
      seam' ≡ all (seaming_of size method axis)
      (λ z how x. served a.number (seam_along how x z (picture z b) ++ drop (turned_size x z).height seam) seam)
      seam
  pub work_left : work' ≡ cleared a.number work

-- Finding by marks.
pub record HostFindMarkedGiven (b m : List ℕ) (size : HostSize) (method : HostMethod) (axis : ℕ) (seam work : List ℕ) (a : Answer) (seam' work' : List ℕ) : Type 0 where
  pub number :
      a.number ≡ all (seaming_of size method axis)
      (λ z how x. refusal (marked_find_rules how x z b m (length seam) (length work)))
      1
  pub value :
      a.value ≡ all (seaming_of size method axis)
      (λ z how x. served a.number (marked_cost_along how x z (picture z b) (marks_of z m)) 0)
      0
  pub seam_given :
      seam' ≡ all (seaming_of size method axis)
      (λ z how x. served a.number (marked_seam_along how x z (picture z b) (marks_of z m) ++ drop (turned_size x z).height seam) seam)
      seam
  pub work_left : work' ≡ cleared a.number work

-- Cutting by marks gives the same, and leaves picture and marks without the seam.
pub record HostCutMarkedGiven (b m : List ℕ) (size : HostSize) (method : HostMethod) (axis : ℕ) (seam work : List ℕ) (a : Answer) (b' m' seam' work' : List ℕ) : Type 0 where
  pub number :
      a.number ≡ all (seaming_of size method axis)
      (λ z how x. refusal (marked_cut_rules how x z b m (length seam) (length work)))
      1
  pub value :
      a.value ≡ all (seaming_of size method axis)
      (λ z how x. served a.number (marked_cost_along how x z (picture z b) (marks_of z m)) 0)
      0
  pub picture_left :
      b' ≡ all (seaming_of size method axis)
      (λ z how x. served a.number (closed_along x z (marked_seam_along how x z (picture z b) (marks_of z m)) b) b)
      b
  pub marks_left :
      m' ≡ all (seaming_of size method axis)
      (λ z how x. served a.number (closed_marks x z (marked_seam_along how x z (picture z b) (marks_of z m)) m) m)
      m
  pub seam_given :
      seam' ≡ all (seaming_of size method axis)
      (λ z how x. served a.number (marked_seam_along how x z (picture z b) (marks_of z m) ++ drop (turned_size x z).height seam) seam)
      seam
  pub work_left : work' ≡ cleared a.number work
