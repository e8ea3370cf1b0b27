-- A part of a lent slice that was lent on and has come back, in terms of take and drop.
use mathlib.Core.Path.{◌≡◌, ap}
use mathlib.Core.List.{List, ◌++◌}
use Prim.Native.Nat.{ℕ, ◌-◌, ◌≤◌}
use native.Mathlib.Omega.{arith}
use borrow.Rule.Slice.PartMut.{put_mid, mid_of, Post-is, mid_len}
use lib.ListN.{length, take, drop, length-drop}
use lib.Seq.{take_all}

pub put_part : {A : Type 0} (a e : ℕ) (xs ys : List A) → a ≤ e → put_mid a (e - a) xs ys ≡ take a xs ++ (ys ++ drop e xs)
put_part a e xs ys h = ap (λ r. take a xs ++ (ys ++ r)) (Post-is a e xs h)

-- The part that was lent has as many elements as the range says.
pub part_length : {A : Type 0} (a e : ℕ) (xs : List A) → e ≤ length xs → length (mid_of a (e - a) xs) ≡ e - a
part_length a e xs h = mid_len a e xs h

-- The part from a place to the end.
pub last_part : {A : Type 0} (at : ℕ) (xs : List A) → take (length xs - at) (drop at xs) ≡ drop at xs
last_part at xs = take_all (length xs - at) (drop at xs) (omega (arith, length-drop at xs))
