-- Laws of the numbers given: the smallest counts, and rules are judged one list after the other.
use mathlib.Core.Path.{◌≡◌, refl, sym, ◌∙◌}
use mathlib.Core.Logic.{⊎_elim}
use mathlib.Core.Bool.{Bool, true, false, cond, ◌&&◌}
use mathlib.Core.List.Memᴰ
use mathlib.Core.List.{List, [], ◌∷◌, ◌++◌, Memᴰ}
use Prim.Native.Nat.{ℕ, zero, suc, ◌≤◌, ◌<◌}
use native.Mathlib.Omega.{arith}
use lib.Dec.{leb, ltb}
use borrow.Author.Tests.{leb-true, ltb-true}
use Rattle.grids.proofs.Bools.{both}
use Rattle.pictures.specs.declared.refusals.Refusal.{Refusal}
use Rattle.pictures.specs.declared.refusals.Refusal.TheVariants.{Form, ZeroSide, TooLarge, Count, Mark, Range, NotOffered, Space, MapRow, BrokenSeam, OtherSeam, AllProtected, LastLine, Join, Rectangle, RectangleName, StaleSeam, Ranges, GridSide, NotBlocked}
use Rattle.std.specs.Prelude.{Result, Err}
use Rattle.pictures.specs.Refusals.{Rule, ◌when◌, number_of, given, refusal, SmallestGiven, ascending, served}

-- Every number is above 0, as a test that computes.
abbrev pub positive : List Rule → Bool
positive [] = true
positive ((n when t) ∷ rules) = ltb 0 n && positive rules

-- Where none of the first rules applies, the others decide.
pub served-first : (rules more : List Rule) → positive rules ≡ true → refusal rules ≡ 0 → refusal (rules ++ more) ≡ refusal more
served-first [] more p e = refl
served-first ((n when true) ∷ rules) more p e = absurd (omega (arith, ltb-true 0 n (both (ltb 0 n) (positive rules) p).0))
served-first ((n when false) ∷ rules) more p e = served-first rules more (both (ltb 0 n) (positive rules) p).1 e

-- And where nothing of both is given, nothing of either is.
pub served-both : (rules more : List Rule) → positive rules ≡ true → refusal (rules ++ more) ≡ 0 → (refusal rules ≡ 0) × (refusal more ≡ 0)
served-both [] more p e = (refl, e)
served-both ((n when true) ∷ rules) more p e = absurd (omega (arith, ltb-true 0 n (both (ltb 0 n) (positive rules) p).0))
served-both ((n when false) ∷ rules) more p e = served-both rules more (both (ltb 0 n) (positive rules) p).1 e

-- A rule that doesn't apply.
pub passed : (t : Bool) (n m : ℕ) → cond t (suc n) m ≡ 0 → (t ≡ false) × (m ≡ 0)
passed true n m e = absurd (omega arith)
passed false n m e = (refl, e)

-- Every number is at most m, as a test that computes; then so is the one given.
abbrev pub most : ℕ → List Rule → Bool
most m [] = true
most m ((n when t) ∷ rules) = leb n m && most m rules

pub refusal-most : (m : ℕ) (rules : List Rule) → most m rules ≡ true → refusal rules ≤ m
refusal-most m [] e = omega arith
refusal-most m ((n when true) ∷ rules) e = leb-true n m (both (leb n m) (most m rules) e).0
refusal-most m ((n when false) ∷ rules) e = refusal-most m rules (both (leb n m) (most m rules) e).1

-- Where one of the first rules applies, it decides.
pub refused-first : (rules more : List Rule) → 0 < refusal rules → refusal (rules ++ more) ≡ refusal rules
refused-first [] more h = absurd (omega arith)
refused-first ((n when true) ∷ rules) more h = refl
refused-first ((n when false) ∷ rules) more h = refused-first rules more h

at_least : (m : ℕ) (rules : List Rule) → ascending m rules ≡ true → (n : ℕ) (t : Bool) → Memᴰ (n when t) rules → m ≤ n
at_least m [] a n t mem = absurd (Memᴰ.not-nil mem)
at_least m ((n' when t') ∷ rules) a n t mem =
    let ab = both (leb m n') (ascending n' rules) a in
    let le = leb-true m n' ab.0 in
    ⊎_elim
    (λ (e : (n when t) ≡ (n' when t')). let same : n ≡ n' = cc in omega arith)
    (λ k. omega (arith, at_least n' rules ab.1 n t k))
    (Memᴰ.cases_cons mem)

-- "Of several, the smallest number is given": none that applies is below it.
pub smallest : (m : ℕ) (rules : List Rule) → ascending m rules ≡ true → (n : ℕ) → Memᴰ (n when true) rules → refusal rules ≤ n
smallest m [] a n mem = absurd (Memᴰ.not-nil mem)
smallest m ((n' when true) ∷ rules) a n mem =
    ⊎_elim
    (λ (e : (n when true) ≡ (n' when true)). let same : n ≡ n' = cc in omega arith)
    (λ k. at_least n' rules (both (leb m n') (ascending n' rules) a).1 n true k)
    (Memᴰ.cases_cons mem)
smallest m ((n' when false) ∷ rules) a n mem =
    ⊎_elim
    (λ (e : (n when true) ≡ (n' when false)). let z : ◌≡◌ {A = ℕ} 0 1 = cc in absurd (omega arith))
    (λ k. smallest n' rules (both (leb m n') (ascending n' rules) a).1 n k)
    (Memᴰ.cases_cons mem)

-- And the number given is that of a rule that applies.
pub given_applies : (rules : List Rule) → 0 < refusal rules → Memᴰ (refusal rules when true) rules
given_applies [] h = absurd (omega arith)
given_applies ((n when true) ∷ rules) h = Memᴰ.head refl
given_applies ((n when false) ∷ rules) h = Memᴰ.tail (given_applies rules h)

-- So rules in ascending order give the smallest number that applies.
pub given-smallest : (rules : List Rule) → ascending 1 rules ≡ true → SmallestGiven rules
given-smallest rules a = record { applies = given_applies rules; least = smallest 1 rules a }

-- A rule that doesn't apply changes nothing of that.
pub smallest-after : (n : ℕ) (t : Bool) (rules : List Rule) → t ≡ false → SmallestGiven rules → SmallestGiven ((n when t) ∷ rules)
smallest-after n true rules e s = let z : ◌≡◌ {A = ℕ} 0 1 = cc in absurd (omega arith)
smallest-after n false rules e s = record {
  applies = λ h. Memᴰ.tail (s.applies h);
  least = λ m mem.
      ⊎_elim
      (λ (e : (m when true) ≡ (n when false)). let z : ◌≡◌ {A = ℕ} 0 1 = cc in absurd (omega arith))
      (s.least m)
      (Memᴰ.cases_cons mem);
}

-- Every refusal has a number above 0, so a number says whether the answer is served.
pub number-some : (why : Refusal) → 0 < number_of why
number-some Form = omega arith
number-some ZeroSide = omega arith
number-some TooLarge = omega arith
number-some Count = omega arith
number-some Mark = omega arith
number-some Range = omega arith
number-some NotOffered = omega arith
number-some Space = omega arith
number-some MapRow = omega arith
number-some BrokenSeam = omega arith
number-some OtherSeam = omega arith
number-some AllProtected = omega arith
number-some LastLine = omega arith
number-some Join = omega arith
number-some Rectangle = omega arith
number-some RectangleName = omega arith
number-some StaleSeam = omega arith
number-some Ranges = omega arith
number-some GridSide = omega arith
number-some NotBlocked = omega arith

pub served-not : {A : Type 0} (n : ℕ) (x y : A) → 0 < n → served n x y ≡ y
served-not zero x y h = absurd (omega arith)
served-not (suc n) x y h = refl

-- What was lent is left as it was where a refusal's number is given.
pub kept_by : {A : Type 0} (why : Refusal) (x y : A) → y ≡ served (number_of why) x y
kept_by why x y = sym (served-not (number_of why) x y (number-some why))

-- An answer that refuses stands, whatever other rules follow, and leaves what was lent as it was.
module _ {B : Type 0} (v : Result B Refusal) (why : Refusal) (is : v ≡ Err why) where
  refused-some : 0 < given v
  refused-some = rw is (number-some why)

  pub refused_answer : (rules more : List Rule) → given v ≡ refusal rules → given v ≡ refusal (rules ++ more)
  refused_answer rules more e = e ∙ sym (refused-first rules more (rw e at refused-some))

  pub refused-kept : {A : Type 0} (x y : A) → y ≡ served (given v) x y
  refused-kept x y = sym (served-not (given v) x y refused-some)
