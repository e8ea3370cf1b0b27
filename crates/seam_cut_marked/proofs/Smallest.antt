-- "Of several, the smallest number is given": the rules of marks, and of finding and cutting a seam with them.
use mathlib.Core.Path.{refl}
use mathlib.Core.List.{List}
use Prim.Native.Nat.{ℕ}
use Rattle.pictures.specs.declared.sizes.Size.{Size}
use Rattle.pictures.specs.Refusals.{SmallestGiven}
use Rattle.pictures.proofs.Rules.{given-smallest}
use Rattle.energy.specs.declared.methods.Method.{Method}
use Rattle.seam_rules.specs.declared.answers.Axis.{Axis}
use Rattle.seam_cut_marked.specs.Marking.{mark_rules, marked_find_rules, marked_cut_rules}

pub mark_smallest : (z : Size) (marks : List ℕ) → SmallestGiven (mark_rules z marks)
mark_smallest z marks = given-smallest _ refl

pub marked_find_smallest : (how : Method) (x : Axis) (z : Size) (b marks : List ℕ) (seam work : ℕ) → SmallestGiven (marked_find_rules how x z b marks seam work)
marked_find_smallest how x z b marks seam work = given-smallest _ refl

pub marked_cut-smallest : (how : Method) (x : Axis) (z : Size) (b marks : List ℕ) (seam work : ℕ) → SmallestGiven (marked_cut_rules how x z b marks seam work)
marked_cut-smallest how x z b marks seam work = given-smallest _ refl
