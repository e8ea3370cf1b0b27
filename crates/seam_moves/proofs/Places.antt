-- Places of a space: what a write at one of them leaves elsewhere.
use mathlib.Core.Path.{◌≡◌, refl, sym, ap, ap₂, ◌∙◌}
use mathlib.Core.Logic.{◌⊎◌, inl, inr}
use mathlib.Core.List.{List, [], ◌∷◌, ◌++◌, append-nil, append_assoc}
use Prim.Native.Nat.{ℕ, zero, suc, ◌+◌, ◌-◌, ◌≤◌, ◌<◌}
use native.Mathlib.Nat.{add-sub_of_le, add-sub_cancel_left}
use native.Mathlib.Omega.{arith}
use lib.ListN.{length, take, drop, length-append, length-drop, drop_of_length-le}
use lib.Seq.{take-take, drop-drop, take_at, drop_at, length-take-le}
use Rattle.seam_bounds.specs.Inner.{PlacesApart}
use Rattle.seam_moves.specs.Between.{part_at, put_at}

-- A part that lies in the front is a part of the front.
pub part_front : (a n t : ℕ) (xs : List ℕ) → a + n ≤ t → part_at a n (take t xs) ≡ part_at a n xs
part_front zero n t xs h = take-take n t xs (omega arith)
part_front (suc a) n zero xs h = absurd (omega arith)
part_front (suc a) n (suc t) [] h = refl
part_front (suc a) n (suc t) (x ∷ xs) h = part_front a n t xs (omega arith)

-- As long as it was, and the same outside the n bytes at a place.
pub record Kept (at n : ℕ) (old new : List ℕ) : Type 0 where
  pub long : length new ≡ length old
  pub before : take at new ≡ take at old
  pub after : drop (at + n) new ≡ drop (at + n) old

-- Every part that doesn't meet the place is as it was.
pub kept_part : (at n : ℕ) (old new : List ℕ) → Kept at n old new → (a k : ℕ) → (a + k ≤ at) ⊎ (at + n ≤ a) → part_at a k new ≡ part_at a k old
kept_part at n old new same a k (inl h) = sym (part_front a k at new h) ∙ ap (part_at a k) same.before ∙ part_front a k at old h
kept_part at n old new same a k (inr h) =
    let e : at + n + (a - (at + n)) ≡ a = add-sub_of_le h in
    ap (take k)
    (sym (drop-drop (a - (at + n)) (at + n) new ∙ ap (λ i. drop i new) e)
    ∙ ap (drop (a - (at + n))) same.after
    ∙ drop-drop (a - (at + n)) (at + n) old ∙ ap (λ i. drop i old) e)

-- A write of n bytes: they stand at their place, and the rest is kept.
module _ (at n : ℕ) (new old : List ℕ) (many : length new ≡ n) (room : at + n ≤ length old) where
  front : length (take at old) ≡ at
  front = length-take-le at old (omega arith)

  both : length (take at old ++ new) ≡ at + n
  both = length-append (take at old) new ∙ ap₂ ◌+◌ front many

  pub put_there : part_at at n (put_at at n new old) ≡ new
  put_there = ap (take n) (drop_at (take at old) (new ++ drop (at + n) old) at front) ∙ take_at new (drop (at + n) old) n many

  pub put_kept : Kept at n old (put_at at n new old)
  put_kept = record {
    long = omega (arith, length-append (take at old) (new ++ drop (at + n) old), length-append new (drop (at + n) old), length-drop (at + n) old, front);
    before = take_at (take at old) (new ++ drop (at + n) old) at front;
    after = ap (drop (at + n)) (sym (append_assoc (take at old) new (drop (at + n) old))) ∙ drop_at (take at old ++ new) (drop (at + n) old) (at + n) both;
  }

pub length_part : (a n : ℕ) (xs : List ℕ) → a + n ≤ length xs → length (part_at a n xs) ≡ n
length_part a n xs h = length-take-le n (drop a xs) (omega (arith, length-drop a xs))

-- What is made of the n bytes at `from`, put at `to`, where the space is cut between the two places. Cut at `to`, where the first
-- place is the lower one, or at `from`. m is how n is written in the code.
module _ (old : List ℕ) (from n to : ℕ) (places : PlacesApart (length old) from to n) (make : List ℕ → List ℕ) (m : ℕ) (is : m ≡ n) where
  lower : from < to → (from + n ≤ to) ⊎ (to + n ≤ from) → from + n ≤ to
  lower h (inl l) = l
  lower h (inr l) = absurd (omega arith)

  higher : to ≤ from → (from + n ≤ to) ⊎ (to + n ≤ from) → to + n ≤ from
  higher h (inl l) = omega arith
  higher h (inr l) = l

  full : (xs : List ℕ) → length xs ≡ n → drop n xs ≡ []
  full xs e = drop_of_length-le xs {i = n} (omega arith)

  pub into_back : (front back new : List ℕ) → from < to → front ≡ take to old → back ≡ drop to old
      → new ≡ make (take (from + m - from) (drop from front)) ++ drop n (take m back)
      → front ++ (new ++ drop m back) ≡ put_at to n (make (part_at from n old)) old
  into_back front back new h front-is back-is New-is =
      let to_inside = places.to_inside in
      let lent : take (from + m - from) (drop from front) ≡ part_at from n old = rw (front-is, add-sub_cancel_left from m, is) (part_front from n to old (lower h places.apart)) in
      let none : drop n (take m back) ≡ [] = rw (back-is, is) (full (take n (drop to old)) (length_part to n old to_inside)) in
      let one : new ≡ make (part_at from n old) = New-is ∙ ap₂ (λ x y. make x ++ y) lent none ∙ append-nil (make (part_at from n old)) in
      ap₂ ◌++◌ front-is (ap₂ ◌++◌ one (ap₂ drop is back-is ∙ drop-drop n to old))
