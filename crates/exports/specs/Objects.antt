-- What hosts see of an object removed: the number, the ending as a number, the count of seams cut, and the buffers.
use Rattle.std.specs.Prelude.{◌≡◌, List, ℕ, length, replicate}
use Rattle.pictures.specs.declared.sizes.Size.{Size}
use Rattle.pictures.specs.Refusals.{refusal, served}
use Rattle.energy.specs.declared.methods.Method.{Method}
use Rattle.seam_objects.specs.Objects.{Removed, removal}
use Rattle.seam_objects.specs.Removing.{removal_rules, marked_picture, left_picture, left_marks}
use Rattle.export_answers.specs.declared.names.HostSize.{HostSize}
use Rattle.export_answers.specs.declared.names.HostMethod.{HostMethod}
use Rattle.export_answers.specs.declared.objects.Ended.{Ended}
use Rattle.export_answers.specs.Named.{carving_of, both}
use Rattle.export_answers.specs.Objects.{ending_number}

-- The removal of what is marked 2 in lent buffers, by at most `budget` cuts.
abbrev pub removed : List ℕ → List ℕ → ℕ → Size → Method → Removed
removed b m budget z how = removal budget 0 (marked_picture z how b m)

-- What is left lies packed at the front of each buffer, the freed bytes 0.
pub record HostRemoveGiven (b m : List ℕ) (size : HostSize) (method : HostMethod) (budget : ℕ) (work : List ℕ) (a : Ended) (b' m' work' : List ℕ) : Type 0 where
  pub number : a.number ≡ both (carving_of size method) (λ z how. refusal (removal_rules z b m (length work))) 1
  pub ending :
      a.ending ≡ both (carving_of size method)
      (λ z how. served a.number (ending_number (removed b m budget z how).ending) 0)
      0
  pub count : a.count ≡ both (carving_of size method) (λ z how. served a.number (removed b m budget z how).count 0) 0
  pub picture_left :
      b' ≡ both (carving_of size method) (λ z how. served a.number (left_picture z (removed b m budget z how)) b) b
  pub marks_left :
      m' ≡ both (carving_of size method) (λ z how. served a.number (left_marks z (removed b m budget z how)) m) m
  pub work_left : work' ≡ served a.number (replicate (length work) 0) work
