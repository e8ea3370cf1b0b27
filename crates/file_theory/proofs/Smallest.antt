-- "Of several, the smallest number is given": the rules of a file's parts, and of each operation on files.
use mathlib.Core.Path.{refl}
use mathlib.Core.Option.{Option, none, some}
use mathlib.Core.List.{List}
use Prim.Native.Nat.{ℕ}
use Rattle.pictures.specs.Refusals.{Rule, SmallestGiven}
use Rattle.pictures.proofs.Rules.{given-smallest}
use Rattle.text_theory.specs.declared.Head.{Head}
use Rattle.text_theory.specs.Files.{Parts, parse}
use Rattle.file_theory.specs.Rules.{part_rules, judged_rules, form_rules, check_rules, read_rules, show_rules, build_rules}

pub part_smallest : (p : Parts) → SmallestGiven (part_rules p)
part_smallest p = given-smallest _ refl

pub judged-smallest : (p : Parts) → SmallestGiven (judged_rules p)
judged-smallest p = given-smallest _ refl

-- A text that breaks its form is refused by 1 alone; else the rules are those of its parts.
pub form_smallest : (rules : Parts → List Rule) → ((p : Parts) → SmallestGiven (rules p)) → (o : Option Parts) → SmallestGiven (form_rules rules o)
form_smallest rules h none = given-smallest _ refl
form_smallest rules h (some p) = h p

pub check_smallest : (f : List ℕ) (work : ℕ) → SmallestGiven (check_rules f work)
check_smallest f work = form_smallest _ (λ p. given-smallest _ refl) (parse f)

pub read-smallest : (f : List ℕ) (picture map work : ℕ) → SmallestGiven (read_rules f picture map work)
read-smallest f picture map work = form_smallest _ (λ p. given-smallest _ refl) (parse f)

pub show_smallest : (f : List ℕ) (v out work : ℕ) → SmallestGiven (show_rules f v out work)
show_smallest f v out work = form_smallest _ (λ p. given-smallest _ refl) (parse f)

pub build_smallest : (b : List ℕ) (h : Head) (out work : ℕ) → SmallestGiven (build_rules b h out work)
build_smallest b h out work = given-smallest _ refl
