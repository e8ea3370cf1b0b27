-- "Of several, the smallest number is given": the rules of finding and cutting a seam, and of a retarget.
use mathlib.Core.Path.{refl}
use Prim.Native.Nat.{ℕ}
use Rattle.pictures.specs.declared.sizes.Size.{Size}
use Rattle.pictures.specs.Refusals.{SmallestGiven}
use Rattle.pictures.proofs.Rules.{given-smallest}
use Rattle.seam_rules.specs.declared.answers.Axis.{Axis}
use Rattle.seam_rules.specs.declared.answers.Rows.{Rows}
use Rattle.seam_rules.specs.declared.answers.Columns.{Columns}
use Rattle.seam_rules.specs.Cuts.{room_rules, find_rules, last_rules, cut_rules, mark_length_rules, close_along_lengths}
use Rattle.seam_rules.specs.Counts.{retarget_rules}

pub room-smallest : (x : Axis) (z : Size) (seam work : ℕ) → SmallestGiven (room_rules x z seam work)
room-smallest x z seam work = given-smallest _ refl

pub find_smallest : (x : Axis) (z : Size) (bytes seam work : ℕ) → SmallestGiven (find_rules x z bytes seam work)
find_smallest x z bytes seam work = given-smallest _ refl

pub last_smallest : (x : Axis) (z : Size) → SmallestGiven (last_rules x z)
last_smallest x z = given-smallest _ refl

pub cut-smallest : (x : Axis) (z : Size) (bytes seam work : ℕ) → SmallestGiven (cut_rules x z bytes seam work)
cut-smallest x z bytes seam work = given-smallest _ refl

pub mark_length-smallest : (z : Size) (marks : ℕ) → SmallestGiven (mark_length_rules z marks)
mark_length-smallest z marks = given-smallest _ refl

pub close_along_lengths-smallest : (x : Axis) (z : Size) (bytes seam work : ℕ) → SmallestGiven (close_along_lengths x z bytes seam work)
close_along_lengths-smallest x z bytes seam work = given-smallest _ refl

pub retarget_smallest : (z : Size) (rows : Rows) (columns : Columns) (bytes out work : ℕ) → SmallestGiven (retarget_rules z rows columns bytes out work)
retarget_smallest z rows columns bytes out work = given-smallest _ refl
