-- "When it says no": the refusals, their numbers, and which of several is given.
use Rattle.std.specs.Prelude.{Result, Ok, Err, Bool, true, cond, ◌||◌, ◌&&◌, ℕ, zero, suc, ◌≤◌, ◌<◌, eqb, leb, ltb}
use mathlib.Core.List.{List, [], ◌∷◌, Memᴰ}
use Rattle.pictures.specs.declared.refusals.Refusal.{Refusal}
use Rattle.pictures.specs.declared.refusals.Refusal.TheVariants.{Form, ZeroSide, TooLarge, Count, Mark, Range, NotOffered, Space, MapRow, BrokenSeam, OtherSeam, AllProtected, LastLine, Join, Rectangle, RectangleName, StaleSeam, Ranges, GridSide, NotBlocked}

-- The number of a refusal. No operation gives 14 to 20 yet.
abbrev pub number_of : Refusal → ℕ
number_of Form = 1
number_of ZeroSide = 2
number_of TooLarge = 3
number_of Count = 4
number_of Mark = 5
number_of Range = 6
number_of NotOffered = 7
number_of Space = 8
number_of MapRow = 9
number_of BrokenSeam = 10
number_of OtherSeam = 11
number_of AllProtected = 12
number_of LastLine = 13
number_of Join = 14
number_of Rectangle = 15
number_of RectangleName = 16
number_of StaleSeam = 17
number_of Ranges = 18
number_of GridSide = 19
number_of NotBlocked = 20

-- The number that an answer gives; 0 where nothing is refused.
abbrev pub given : {A : Type 0} → Result A Refusal → ℕ
given (Ok x) = 0
given (Err why) = number_of why

-- A line of the table: a number, and whether it is given.
infix 68 ◌when◌
pub data Rule : Type 0 where
  ◌when◌ : ℕ → Bool → Rule

-- Of several, the smallest number is given: the lines stand in ascending order, and the first that applies counts.
-- 0 where none applies.
abbrev pub refusal : List Rule → ℕ
refusal [] = 0
refusal ((n when t) ∷ rules) = cond t n (refusal rules)

-- "Of several, the smallest number is given": where one is given, it is that of a rule that applies, and no rule that applies
-- has a smaller one.
pub record SmallestGiven (rules : List Rule) : Type 0 where
  pub applies : 0 < refusal rules → Memᴰ (refusal rules when true) rules
  pub least : (n : ℕ) → Memᴰ (n when true) rules → refusal rules ≤ n

-- Every number is at least m and at least the one before it, as a test that computes.
abbrev pub ascending : ℕ → List Rule → Bool
ascending m [] = true
ascending m ((n when t) ∷ rules) = leb m n && ascending n rules

-- The first where nothing is refused, else the second.
abbrev pub served : {A : Type 0} → ℕ → A → A → A
served zero x y = x
served (suc n) x y = y

-- "After 1 to 8 all buffers are unchanged. After 9 and every higher number .. as after success": the first after success and
-- after 9 and more, else the second.
abbrev pub worked : {A : Type 0} → ℕ → A → A → A
worked n x y = cond (eqb n 0 || ltb 8 n) x y
