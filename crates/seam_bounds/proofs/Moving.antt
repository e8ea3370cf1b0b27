-- Laws of what is decided of moves: columns of a seam inside a picture, and two places of a space.
use mathlib.Core.Path.{◌≡◌, refl}
use mathlib.Core.Logic.{◌⊎◌, inl, inr}
use mathlib.Core.Bool.{Bool, true, false, ◌||◌}
use mathlib.Core.List.{List, [], ◌∷◌}
use Prim.Native.Nat.{ℕ, suc, ◌+◌, ◌≤◌, ◌<◌}
use native.Mathlib.Numerals.{add-one}
use native.Mathlib.Omega.{arith}
use borrow.Author.Tests.{leb-false, le-leb, lt-leb}
use lib.Dec.{leb}
use lib.ListN.{length, get_or, drop}
use lib.Seq.{drop-cons}
use Rattle.grids.specs.Each.{Each, none, more}
use Rattle.seam_bounds.specs.Moves.{outside, apart_in}
use Rattle.seam_bounds.specs.Inner.{PlacesApart}

-- A seam of which no column is outside.
pub inside_each : (w : ℕ) (s : List ℕ) → outside w s ≡ false → Each (λ c. c < w) (length s) s
unfolding outside
inside_each w [] e = none
inside_each w (c ∷ s) e = go (leb w c) refl e (inside_each w s)
  where
    go : (t : Bool) → leb w c ≡ t → (t || outside w s) ≡ false → (outside w s ≡ false → Each (λ c. c < w) (length s) s) → Each (λ c. c < w) (suc (length s)) (c ∷ s)
    go true l f rest = absurd (let z : ◌≡◌ {A = ℕ} 0 1 = cc in omega arith)
    go false l f rest = more (leb-false w c l) (rest f)

-- No column is outside where each is below the width.
pub each_inside : {w n : ℕ} {s : List ℕ} → Each (λ c. c < w) n s → outside w s ≡ false
unfolding outside
each_inside none = refl
each_inside {w} (more {x = c} h e) = rw (lt-leb w c h) (each_inside e)

-- One turn of a loop that looks for a column outside: it ends here, or the columns after this one decide.
pub outside-here : (w : ℕ) (s : List ℕ) (r : ℕ) → r < length s → w ≤ get_or s r 0 → outside w (drop r s) ≡ true
unfolding outside
outside-here w s r h l = rw (drop-cons s r 0 h, le-leb w (get_or s r 0) l)

pub outside-next : (w : ℕ) (s : List ℕ) (r : ℕ) → r < length s → get_or s r 0 < w → outside w (drop (r + 1) s) ≡ outside w (drop r s)
unfolding outside
outside-next w s r h l = rw (add-one r, drop-cons s r 0 h, lt-leb w (get_or s r 0) l)

-- And the other way round.
pub are_places : (space from to n : ℕ) → PlacesApart space from to n → apart_in space from to n ≡ true
are_places space from to n p = go p.apart
  where
    go : (from + n ≤ to) ⊎ (to + n ≤ from) → apart_in space from to n ≡ true
    go (inl h) = simp (le-leb _ _ p.from_inside, le-leb _ _ p.to_inside, le-leb _ _ h)
    go (inr h) = other (leb (from + n) to) refl
      where
        other : (t : Bool) → leb (from + n) to ≡ t → apart_in space from to n ≡ true
        other true e = simp (le-leb _ _ p.from_inside, le-leb _ _ p.to_inside, e)
        other false e = simp (le-leb _ _ p.from_inside, le-leb _ _ p.to_inside, e, le-leb _ _ h)
