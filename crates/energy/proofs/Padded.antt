-- A row with its first and its last pixel once more at its sides: it holds the neighbours of each pixel, and how it is filled and read.
use mathlib.Core.Path.{◌≡◌, refl, sym, ap, ap₂, ◌∙◌}
use mathlib.Core.Logic.{◌⊎◌, inl, inr, ⊎_elim}
use mathlib.Core.Bool.{cond}
use mathlib.Core.List.{List, ◌++◌, append-nil, append_assoc}
use Prim.Native.Nat.{ℕ, zero, suc, ◌+◌, ◌-◌, ◌*◌, ◌≤◌, ◌<◌}
use native.Mathlib.Nat.{zero-mul, suc-mul, le_of_eq}
use native.Mathlib.Numerals.{add-one}
use native.Mathlib.Omega.{arith}
use lib.Dec.{ltb}
use borrow.Author.Tests.{lt-ltb, le-ltb}
use borrow.Rule.Slice.PartMut.{put_mid}
use lib.ListN.{length, take, drop, length-append, length-drop, drop_of_length-le}
use lib.Seq.{take_at, drop_at, drop-drop, length-take-le}
use Rattle.grids.specs.Rows.{row_at}
use Rattle.grids.proofs.Orders.{le-or-lt}
use Rattle.grids.proofs.Parts.{put_part, last_part}
use Rattle.grids.proofs.Rows.{part_end, row_at-first, row_at-later, row_at-drop, row_at-before}
use Rattle.energy.specs.Inner.{DistancesNeeded, StepsNeeded, padded, befores, afters}

-- The column after column c of w; of the last, the column itself.
abbrev pub after : ℕ → ℕ → ℕ
after w c = cond (ltb (c + 1) w) (c + 1) c

pub after-inside : (w c : ℕ) → c < w → after w c < w
after-inside w c h =
    ⊎_elim
    (λ (l : w ≤ c + 1). rw (le-ltb (c + 1) w l) h)
    (λ (l : c + 1 < w). rw (lt-ltb (c + 1) w l) l)
    (le-or-lt w (c + 1))

-- A row of w pixels of n samples.
module _ (n w : ℕ) (it : List ℕ) (some : 0 < w) (long : length it ≡ w * n) where
  one : n ≤ w * n
  one = omega (arith, part_end 0 w n some)

  first-long : length (take n it) ≡ n
  first-long = length-take-le n it (omega (arith, long, one))

  -- The pixel at place c + 1 is pixel c,
  inner : (c : ℕ) → c < w → row_at n (c + 1) (padded n it) ≡ row_at n c it
  inner c h =
      row_at-later n c (take n it) (it ++ drop (length it - n) it) first-long
      ∙ row_at-before n c it (drop (length it - n) it) (omega (arith, long, part_end c w n h))

  -- that at place 0 the first,
  pub before_is : (c : ℕ) → c < w → row_at n c (befores n it) ≡ row_at n (c - 1) it
  before_is zero h = row_at-first n (take n it) (it ++ drop (length it - n) it) first-long ∙ sym (ap (λ k. take n (drop k it)) (zero-mul n))
  before_is (suc c) h =
      let e : suc c - 1 ≡ c = omega arith in
      ap (λ k. row_at n k (padded n it)) (sym (add-one c)) ∙ inner c (omega arith) ∙ ap (λ k. row_at n k it) (sym e)

  -- and that at place w + 1 the last.
  last : row_at n w (it ++ drop (length it - n) it) ≡ row_at n (w - 1) it
  last =
      ap (λ k. take n (drop k (it ++ drop (length it - n) it))) (sym long)
      ∙ ap (take n) (drop_at it (drop (length it - n) it) (length it) refl ∙ ap (λ k. drop k it) at)
    where
      at : length it - n ≡ (w - 1) * n
      at = let e : w ≡ suc (w - 1) = omega arith in omega (arith, long, ap (λ k. k * n) e, suc-mul (w - 1) n)

  pub after_is : (c : ℕ) → c < w → row_at n c (afters n it) ≡ row_at n (after w c) it
  after_is c h = here ∙ go (le-or-lt w (c + 1))
    where
      here : row_at n c (afters n it) ≡ row_at n (c + 1) (it ++ drop (length it - n) it)
      here =
          ap (row_at n c) (ap (λ k. drop k (padded n it)) two ∙ sym (drop-drop n n (padded n it)) ∙ ap (drop n) (drop_at (take n it) (it ++ drop (length it - n) it) n first-long))
          ∙ row_at-drop n c (it ++ drop (length it - n) it)
        where
          two : 2 * n ≡ n + n
          two = omega arith

      go : (w ≤ c + 1) ⊎ (c + 1 < w) → row_at n (c + 1) (it ++ drop (length it - n) it) ≡ row_at n (after w c) it
      go (inl l) =
          let e : c + 1 ≡ w = omega arith in
          let f : w - 1 ≡ c = omega arith in
          rw (le-ltb (c + 1) w l) (ap (λ k. row_at n k (it ++ drop (length it - n) it)) e ∙ last ∙ ap (λ k. row_at n k it) f)
      go (inr l) = rw (lt-ltb (c + 1) w l) (row_at-before n (c + 1) it (drop (length it - n) it) (omega (arith, long, part_end (c + 1) w n l)))

-- The three parts that are copied make the row.
module _ (n : ℕ) (it wide first second third : List ℕ) (few : n ≤ length it) (as_first : first ≡ take n it) (as_second : second ≡ it) where
  abbrev filled : List ℕ
  filled = first ++ drop n wide

  abbrev two : List ℕ
  two = put_mid n (n + length it - n) (first ++ drop n wide) second

  abbrev rest : List ℕ
  rest = drop (n + length it) (first ++ drop n wide)

  front : List ℕ
  front = take n it ++ it

  start-long : length (take n it) ≡ n
  start-long = length-take-le n it few

  front-long : length front ≡ n + length it
  unfolding front
  front-long = length-append (take n it) it ∙ ap (◌+ length it) start-long

  two_is : two ≡ front ++ rest
  unfolding front
  two_is =
      put_part n (n + length it) filled second (omega arith)
      ∙ ap₂ (λ x y. x ++ (y ++ rest)) (take_at first (drop n wide) n (ap length as_first ∙ start-long) ∙ as_first) as_second
      ∙ sym (append_assoc (take n it) it rest)

  pub padded_is : third ≡ drop (length it - n) it
      → put_mid (n + length it) (length (put_mid n (n + length it - n) (first ++ drop n wide) second) - (n + length it)) (put_mid n (n + length it - n) (first ++ drop n wide) second) third
      ≡ padded n it
  unfolding front
  padded_is as_third =
      put_part (n + length it) (length two) two third (omega (arith, ap length two_is, length-append front rest, front-long))
      ∙ ap₂ (λ x y. x ++ (third ++ y)) (ap (take (n + length it)) two_is ∙ take_at front rest (n + length it) front-long) (drop_of_length-le two (le_of_eq refl))
      ∙ ap (front ++◌) (append-nil third ∙ as_third)
      ∙ append_assoc (take n it) it (drop (length it - n) it)

-- It is two pixels longer.
pub padded-long : (n : ℕ) (it : List ℕ) → n ≤ length it → length (padded n it) ≡ length it + 2 * n
padded-long n it few =
    omega (
      arith,
      length-append (take n it) (it ++ drop (length it - n) it),
      length-append it (drop (length it - n) it),
      length-take-le n it few,
      length-drop (length it - n) it,
    )

-- How it is read when it stands at the front of an array: from its start, and without its first two pixels.
module _ (n : ℕ) (it wide rest : List ℕ) (few : n ≤ length it) (is : wide ≡ padded n it) where
  pub before-read : take (length it + 2 * n) (wide ++ rest) ≡ befores n it
  before-read = take_at wide rest (length it + 2 * n) (ap length is ∙ padded-long n it few) ∙ is

  pub after-read : take (length (take (length it + 2 * n) (wide ++ rest)) - 2 * n) (drop (2 * n) (take (length it + 2 * n) (wide ++ rest))) ≡ afters n it
  after-read = last_part (2 * n) (take (length it + 2 * n) (wide ++ rest)) ∙ ap (drop (2 * n)) before-read

-- There are as many samples before and after those of a row as it has, and so many above it.
module _ (n : ℕ) (it above : List ℕ) (few : n ≤ length it) (samples : ℕ) (long : length it ≡ samples) (high : length above ≡ samples) where
  afters-long : samples ≤ length (afters n it)
  afters-long = omega (arith, length-drop (2 * n) (padded n it), padded-long n it few, long)

  befores-long : samples ≤ length (befores n it)
  befores-long = omega (arith, padded-long n it few, long)

  pub left_needed : DistancesNeeded (afters n it) (befores n it) above (befores n it) samples
  left_needed = record { first = afters-long; second = befores-long; third = omega (arith, high); fourth = befores-long }

  pub up_needed : DistancesNeeded (afters n it) (befores n it) (befores n it) (befores n it) samples
  up_needed = record { first = afters-long; second = befores-long; third = befores-long; fourth = befores-long }

  pub right_needed : DistancesNeeded (afters n it) (befores n it) above (afters n it) samples
  right_needed = record { first = afters-long; second = befores-long; third = omega (arith, high); fourth = afters-long }

-- A row holds a pixel at least.
pub few : {n : ℕ} {it above : List ℕ} {left up right : ℕ} → StepsNeeded n it above left up right → n ≤ length it
few {n} {left = left} needed = omega (arith, needed.row.it_is, part_end 0 left n needed.row.some)
