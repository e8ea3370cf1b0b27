-- Laws of one number of a map: which pixels are left before a seam, and numbers where one more seam is cut first.
use mathlib.Core.Path.{◌≡◌, refl, sym, ◌∙◌}
use mathlib.Core.Bool.{Bool, true, false, not}
use Prim.Native.Nat.{ℕ, zero, suc, ◌-◌, ◌≤◌, ◌<◌}
use native.Mathlib.Omega.{arith}
use lib.Dec.{leb, eqb, leb-zero, leb-suc-suc, eqb-zero-suc, eqb-suc-zero, eqb-suc-suc}
use borrow.Author.Tests.{leb-true, leb-false, le-leb, lt-leb, eqb-false}
use Rattle.map_theory.specs.Maps.{later}
use Rattle.map_theory.specs.Widths.{stays, doubled}
use Rattle.map_theory.specs.Judged.{remains}

-- What stays after seam t is what is left before seam t + 1.
pub stays-remains : (t : ℕ) → ◌≡◌ {A = ℕ → Bool} (stays t) (remains (suc t))
unfolding stays remains
stays-remains t = refl

-- Pixels numbered 0 are left before every seam; before seam 1 all are.
pub remains_zero : (t : ℕ) → remains t 0 ≡ true
unfolding remains
remains_zero t = refl

pub remains-all : (v : ℕ) → remains 1 v ≡ true
unfolding remains
remains-all zero = refl
remains-all (suc v) = rw (eqb-suc-zero v, leb-suc-suc 0 v, leb-zero v)

-- A pixel with a number is left before the seams up to its own.
pub remains-some : (t v : ℕ) → remains t (suc v) ≡ leb t (suc v)
unfolding remains
remains-some t v = rw (eqb-suc-zero v)

pub remains-le : (t v : ℕ) → t ≤ suc v → remains t (suc v) ≡ true
remains-le t v h = remains-some t v ∙ le-leb t (suc v) h

pub remains-lt : (t v : ℕ) → suc v < t → remains t (suc v) ≡ false
remains-lt t v h = remains-some t v ∙ lt-leb t (suc v) h

pub remains_true : (t v : ℕ) → remains t (suc v) ≡ true → t ≤ suc v
remains_true t v e = leb-true t (suc v) (sym (remains-some t v) ∙ e)

pub remains_false : (t v : ℕ) → remains t (suc v) ≡ false → suc v < t
remains_false t v e = leb-false t (suc v) (sym (remains-some t v) ∙ e)

-- The seam takes no pixel but its own.
pub remains-next : (t v : ℕ) → eqb v t ≡ false → remains (suc t) v ≡ remains t v
remains-next t zero e = remains_zero (suc t) ∙ sym (remains_zero t)
remains-next t (suc v) e = go (remains t (suc v)) refl
  where
    go : (b : Bool) → remains t (suc v) ≡ b → remains (suc t) (suc v) ≡ remains t (suc v)
    go true q = rw q (remains-le (suc t) v (above (eqb-false (suc v) t e) (remains_true t v q)))
      where
        above : (suc v ≡ t → ⊥) → t ≤ suc v → suc t ≤ suc v
        above d l = omega arith
    go false q = rw q (remains-lt (suc t) v (omega (arith, remains_false t v q)))

-- What is left later was left earlier.
pub remains_earlier : (t u v : ℕ) → t ≤ u → remains u v ≡ true → remains t v ≡ true
remains_earlier t u zero h e = remains_zero t
remains_earlier t u (suc v) h e = remains-le t v (omega (arith, remains_true u v e))

-- Doubled is what seams 1 to u take.
pub doubled-not : (u v : ℕ) → doubled u v ≡ not (remains (suc u) v)
unfolding doubled
doubled-not u zero = rw (remains_zero (suc u))
doubled-not u (suc v) = rw (leb-suc-suc 0 v, leb-zero v) (go (remains (suc u) (suc v)) refl)
  where
    go : (b : Bool) → remains (suc u) (suc v) ≡ b → leb (suc v) u ≡ not b
    go true e = lt-leb (suc v) u (omega (arith, remains_true (suc u) v e))
    go false e = le-leb (suc v) u (omega (arith, remains_false (suc u) v e))

pub doubled-more : (t u v : ℕ) → t ≤ u → doubled t v ≡ true → doubled u v ≡ true
doubled-more t u v h e = doubled-not u v ∙ go (remains (suc u) v) refl
  where
    go : (b : Bool) → remains (suc u) v ≡ b → not b ≡ true
    go true q = rw (doubled-not t v, remains_earlier (suc t) (suc u) v (omega arith) q) at e
    go false q = refl

-- One more seam first.
pub remains-later : (t v : ℕ) → remains (suc (suc t)) (later v) ≡ remains (suc t) v
remains-later t zero = remains_zero (suc (suc t)) ∙ sym (remains_zero (suc t))
remains-later t (suc v) = remains-some (suc (suc t)) (suc v) ∙ leb-suc-suc (suc t) (suc v) ∙ sym (remains-some (suc t) v)

pub remains-first : (t : ℕ) → remains (suc (suc t)) 1 ≡ false
remains-first t = remains-lt (suc (suc t)) 0 (omega arith)

pub eqb_later : (t v : ℕ) → eqb (later v) (suc (suc t)) ≡ eqb v (suc t)
eqb_later t zero = rw (eqb-zero-suc t, eqb-zero-suc (suc t))
eqb_later t (suc v) = eqb-suc-suc (suc v) (suc t)

pub eqb_later-first : (v : ℕ) → eqb (later v) 1 ≡ false
eqb_later-first zero = refl
eqb_later-first (suc v) = eqb-suc-suc (suc v) 0 ∙ eqb-suc-zero v

pub eqb_first : (t : ℕ) → eqb 1 (suc (suc t)) ≡ false
eqb_first t = eqb-suc-suc 0 (suc t) ∙ eqb-zero-suc t

pub later-less : (t v : ℕ) → later v - suc t ≡ v - t
later-less t zero = omega arith
later-less t (suc v) = omega arith
