-- "Of several, the smallest number is given": the rules of the spaces for checking, reading, showing and building.
use mathlib.Core.Path.{refl}
use Prim.Native.Nat.{ℕ}
use Rattle.pictures.specs.declared.sizes.Size.{Size}
use Rattle.pictures.specs.Refusals.{SmallestGiven}
use Rattle.pictures.proofs.Rules.{given-smallest}
use Rattle.text_theory.specs.declared.Head.{Head}
use Rattle.file_rules.specs.Spaces.{work_rules, space_rules, read_space_rules, offer_rules, wanted_rules, build_space_rules}

pub work_smallest : (z : Size) (work : ℕ) → SmallestGiven (work_rules z work)
work_smallest z work = given-smallest _ refl

pub space-smallest : (z : Size) (picture map work : ℕ) → SmallestGiven (space_rules z picture map work)
space-smallest z picture map work = given-smallest _ refl

pub read-space-smallest : (z : Size) (picture map work : ℕ) → SmallestGiven (read_space_rules z picture map work)
read-space-smallest z picture map work = given-smallest _ refl

pub offer_smallest : (h : Head) (v out work : ℕ) → SmallestGiven (offer_rules h v out work)
offer_smallest h v out work = given-smallest _ refl

pub wanted_smallest : (h : Head) (v out work : ℕ) → SmallestGiven (wanted_rules h v out work)
wanted_smallest h v out work = given-smallest _ refl

pub build_space-smallest : (h : Head) (bytes work : ℕ) → SmallestGiven (build_space_rules h bytes work)
build_space-smallest h bytes work = given-smallest _ refl
