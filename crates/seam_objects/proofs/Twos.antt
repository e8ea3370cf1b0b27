-- A mark 2 is looked for as a slice looks for a value, and one mark after the other: what was seen, or the marks still to come, decides.
use mathlib.Core.Path.{◌≡◌, refl, ap}
use mathlib.Core.Bool.{Bool, true, false, ◌||◌}
use mathlib.Core.List.{List, [], ◌∷◌}
use Prim.Native.Nat.{ℕ, ◌+◌, ◌<◌}
use native.Mathlib.Numerals.{add-one}
use lib.Dec.{eqb}
use lib.ListN.{length, get_or, drop}
use lib.Seq.{drop-cons}
use Rattle.std.specs.List.{list_any}
use Rattle.seam_objects.specs.Objects.{some_two}

pub any_two : (marks : List ℕ) → list_any (λ m. eqb m 2) marks ≡ some_two marks
unfolding some_two
any_two [] = refl
any_two (m ∷ ms) = ap (eqb m 2 ||◌) (any_two ms)

pub two-turn : (some : Bool) (marks : List ℕ) (i : ℕ) → i < length marks
    → ((some || eqb (get_or marks i 0) 2) || some_two (drop (i + 1) marks)) ≡ (some || some_two (drop i marks))
unfolding some_two
two-turn true marks i h = refl
two-turn false marks i h = rw (add-one i, drop-cons marks i 0 h) refl
