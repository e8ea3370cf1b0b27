-- A picture at each width that its map offers.
use mathlib.Core.Path.{◌≡◌, refl, ap₂, ◌∙◌}
use mathlib.Core.Logic.{◌↔◌}
use mathlib.Core.Bool.{Bool, true, ◌&&◌}
use mathlib.Core.List.{List, [], ◌∷◌, zip_with}
use Prim.Native.Nat.{ℕ, zero, suc, ◌+◌, ◌-◌, ◌/◌, ◌≤◌, ◌<◌}
use native.Mathlib.Nat.{le-div_iff_mul-le}
use native.Mathlib.Omega.{arith}
use lib.Dec.{leb, ltb}
use lib.ListN.{get_or}
use borrow.Author.Tests.{leb-true, le-leb, ltb-true, lt-ltb}
use Rattle.grids.specs.Each.{Each, Grid, none, more}
use Rattle.grids.proofs.Bools.{both, and_both}
use Rattle.grids.proofs.Shapes.{each-length, zip_with_at}
use Rattle.seam_theory.specs.Choices.{Choice, Chooses}
use Rattle.map_theory.specs.Maps.{carve, map_of}
use Rattle.map_theory.specs.Widths.{allowed, offered, row_at_width, shown, LeftOut}
use Rattle.map_theory.specs.Judged.{before, Numbering}
use Rattle.map_theory.proofs.Maps.{map-grid, before-map}
use Rattle.map_theory.proofs.Widths.{at_narrow, at-original, length_at, row-left-out}

-- Which depths and growths are allowed, and which widths are offered.
pub allowed_is : (m k g : ℕ) → (allowed m k g ≡ true) ↔ ((k < m) × (g ≤ k) × (g + g ≤ m))
unfolding allowed
allowed_is m k g = (
  λ e.
      let b = both (ltb k m) (leb g k && leb g (m / 2)) e in
      let c = both (leb g k) (leb g (m / 2)) b.1 in
      (ltb-true k m b.0, leb-true g k c.0, omega (arith, (le-div_iff_mul-le {k = 2} {x = g} {y = m} (omega arith)).0 (leb-true g (m / 2) c.1))),
  λ b.
      and_both (ltb k m) (leb g k && leb g (m / 2)) (lt-ltb k m b.0)
      (and_both (leb g k) (leb g (m / 2)) (le-leb g k b.1) (le-leb g (m / 2) ((le-div_iff_mul-le {k = 2} {x = g} {y = m} (omega arith)).1 (omega (arith, b.2))))),
)

pub offered_is : (m k g v : ℕ) → (offered m k g v ≡ true) ↔ ((m - k ≤ v) × (v ≤ m + g))
unfolding offered
offered_is m k g v = (
  λ e. let b = both (leb (m - k) v) (leb v (m + g)) e in (leb-true (m - k) v b.0, leb-true v (m + g) b.1),
  λ b. and_both (leb (m - k) v) (leb v (m + g)) (le-leb (m - k) v b.0) (le-leb v (m + g) b.1),
)

module _ {A : Type 0} (mean : A → A → A) (wrap : Bool) where
  -- Row r of what is shown.
  pub shown_at : {m h : ℕ} {p : List (List A)} {q : List (List ℕ)} (v : ℕ) → Grid m h p → Grid m h q → (r : ℕ) → r < h
      → get_or (shown mean wrap m v p q) r [] ≡ row_at_width mean wrap m v (get_or p r []) (get_or q r [])
  unfolding shown
  shown_at {m} {h} {p} {q} v g u r l = zip_with_at (row_at_width mean wrap m v) p q r [] [] [] (omega (arith, each-length g)) (omega (arith, each-length u))

  -- At the original width the picture is shown, whatever the numbers.
  pub shown-original : {m h : ℕ} {p : List (List A)} {q : List (List ℕ)} → Grid m h p → Grid m h q → shown mean wrap m m p q ≡ p
  unfolding shown zip_with
  shown-original none none = refl
  shown-original {m} (more {x = x} e g) (more {x = y} f u) = ap₂ ◌∷◌ (at-original mean wrap 0 m x y e f) (shown-original g u)

  -- At most as wide as the picture, what is shown is what the map leaves before a seam.
  pub shown-before : {m h : ℕ} {p : List (List A)} {q : List (List ℕ)} (v : ℕ) → v ≤ m → Grid m h p → Grid m h q → shown mean wrap m v p q ≡ before (suc (m - v)) p q
  unfolding shown before zip_with
  shown-before v l none none = refl
  shown-before {m} v l (more {x = x} e g) (more {x = y} f u) = ap₂ ◌∷◌ (at_narrow mean wrap m v x y l) (shown-before v l g u)

  -- A numbered map, at an allowed depth and growth.
  module _ (m k g : ℕ) (range : allowed m k g ≡ true) where
    shown-wide : {h : ℕ} {p : List (List A)} {q : List (List ℕ)} (v : ℕ) → m ≤ v + k → v ≤ m + k → Grid m h p → Grid m h q → Each (Numbering k) h q → Grid v h (shown mean wrap m v p q)
    unfolding shown zip_with
    shown-wide v a b none none none = none
    shown-wide v a b (more {x = x} e d) (more {x = y} f u) (more n s) = more (length_at mean wrap k m x y e f n v a b) (shown-wide v a b d u s)

    -- At each offered width v it shows a picture of width v, as high as the original.
    pub shown-grid : {h : ℕ} {p : List (List A)} {q : List (List ℕ)} (v : ℕ) → offered m k g v ≡ true → Grid m h p → Grid m h q → Each (Numbering k) h q → Grid v h (shown mean wrap m v p q)
    shown-grid v o d u s =
        let a = (allowed_is m k g).0 range in
        let b = (offered_is m k g v).0 o in
        shown-wide v (omega (arith, a.0, b.0)) (omega (arith, a.1, b.1)) d u s

    rows-left-out : {h : ℕ} {p : List (List A)} {q : List (List ℕ)} (v z : ℕ) → m ≤ v + k → v ≤ z → z ≤ m + k → Grid m h p → Grid m h q → Each (Numbering k) h q
        → (r : ℕ) → r < h → LeftOut (z - v) (get_or (shown mean wrap m v p q) r []) (get_or (shown mean wrap m z p q) r [])
    unfolding shown zip_with
    rows-left-out v z a b c none none none r l = absurd (omega arith)
    rows-left-out v z a b c (more {x = x} e d) (more {x = y} f u) (more n s) zero l = row-left-out mean wrap k m x y e f n v z a b c
    rows-left-out v z a b c (more {x = x} e d) (more {x = y} f u) (more n s) (suc r) l = rows-left-out v z a b c d u s r (omega arith)

    -- Each row at an offered width is the row at any greater one with as many pixels left out as the widths differ by, the
    -- others unchanged and in their order.
    pub shown-left-out : {h : ℕ} {p : List (List A)} {q : List (List ℕ)} (v z : ℕ) → offered m k g v ≡ true → offered m k g z ≡ true → v ≤ z
        → Grid m h p → Grid m h q → Each (Numbering k) h q → (r : ℕ) → r < h → LeftOut (z - v) (get_or (shown mean wrap m v p q) r []) (get_or (shown mean wrap m z p q) r [])
    shown-left-out v z o w l =
        let a = (allowed_is m k g).0 range in
        let b = (offered_is m k g v).0 o in
        let c = (offered_is m k g z).0 w in
        rows-left-out v z (omega (arith, a.0, b.0)) l (omega (arith, a.1, c.1))

-- Width m - t of the picture's own map shows the picture after t cuts.
pub shown-carve : {A : Type 0} (mean : A → A → A) (wrap : Bool) (choose : Choice A) {near : ℕ → ℕ → ℕ → Bool} (good : Chooses near choose) (t k m h : ℕ) (p : List (List A)) → Grid m h p → t ≤ k → k ≤ m
    → shown mean wrap m (m - t) p (map_of choose k m h p) ≡ carve choose t m h p
shown-carve mean wrap choose good t k m h p g l d =
    let z : m - (m - t) ≡ t = omega arith in
    shown-before mean wrap (m - t) (omega arith) g (map-grid choose good k m h p g d) ∙ rw z (before-map choose good t k m h p g l d)
