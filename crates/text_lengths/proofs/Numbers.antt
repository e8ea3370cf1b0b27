-- The number of what is left of a room: 8 just where the room is too short.
use mathlib.Core.Path.{◌≡◌, refl}
use Rattle.std.specs.Prelude.{Option, None, Some, Bool, true, false, cond, ℕ, ◌-◌, leb}
use borrow.Author.Tests.{leb-true, leb-false, le-ltb, lt-ltb}
use Rattle.pictures.specs.Refusals.{refusal, SmallestGiven}
use Rattle.pictures.proofs.Rules.{given-smallest}
use Rattle.text_lengths.specs.Rooms.{left_number, left_rules, less}

pub left_number_lem : (room n : ℕ) (l : Option ℕ) → l ≡ less room n → left_number l ≡ refusal (left_rules room n)
unfolding less
left_number_lem room n l is = rw is (go (leb n room) refl)
  where
    go : (t : Bool) → leb n room ≡ t → left_number (cond t (Some (room - n)) None) ≡ refusal (left_rules room n)
    go true e = rw (le-ltb room n (leb-true _ _ e))
    go false e = rw (lt-ltb room n (leb-false _ _ e))

pub left-smallest : (room n : ℕ) → SmallestGiven (left_rules room n)
left-smallest room n = given-smallest _ refl
