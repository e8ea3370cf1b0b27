-- The map of a picture: its shape, its numbers, the seams that it records, what it leaves, and how it is built.
use mathlib.Core.Path.{◌≡◌, sym, ap, ◌∙◌}
use mathlib.Core.Bool.{Bool}
use mathlib.Core.List.{List}
use Prim.Native.Nat.{ℕ, zero, suc, ◌+◌, ◌-◌, ◌≤◌, ◌<◌}
use native.Mathlib.Omega.{arith}
use Rattle.grids.specs.Each.{Each, Grid}
use Rattle.grids.specs.Cut.{cut}
use Rattle.grids.proofs.Cut.{cut_narrower}
use Rattle.grids.proofs.Shapes.{grid_of}
use Rattle.seam_theory.specs.Choices.{Choice, Chooses}
use Rattle.map_theory.specs.Maps.{number, carve, map_of}
use Rattle.map_theory.specs.Judged.{before, recorded, Numbering, lower}
use Rattle.map_theory.proofs.Levels.{Columns, write_all, before-number, write-number, lower_zero, grid-cut, grid-number, grid-zeros, before-all, recorded-first, recorded-number, lower-number, write-first, numbered-number, numbered-zeros}

module _ {A : Type 0} (choose : Choice A) where
  -- One seam more is cut from what is left.
  pub carve-next : (t w h : ℕ) (p : List (List A)) → carve choose (suc t) w h p ≡ cut (choose (w - t) h (carve choose t w h p)) (carve choose t w h p)
  carve-next zero w h p = let z : w - 0 ≡ w = omega arith in rw z
  carve-next (suc t) w h p =
      let z : w - 1 - t ≡ w - suc t = omega arith in
      rw (carve-next t (w - 1) h (cut (choose w h p) p), z)

  -- Seams cut in two goes.
  pub carve-add : (a b w h : ℕ) (p : List (List A)) → carve choose b (w - a) h (carve choose a w h p) ≡ carve choose (a + b) w h p
  carve-add zero b w h p = let z : w - 0 ≡ w = omega arith in let y : 0 + b ≡ b = omega arith in rw (z, y)
  carve-add (suc a) b w h p =
      let z : w - suc a ≡ w - 1 - a = omega arith in
      let y : suc a + b ≡ suc (a + b) = omega arith in
      rw (z, y) (carve-add a b (w - 1) h (cut (choose w h p) p))

  module _ {near : ℕ → ℕ → ℕ → Bool} (good : Chooses near choose) where
    columns : {w h : ℕ} {p : List (List A)} → 0 < w → Grid w h p → Columns w h (choose w h p)
    columns {w} {h} {p} l g = good.inside w h p l g

    grid-next : {w h : ℕ} {p : List (List A)} → 0 < w → Grid w h p → Grid (w - 1) h (cut (choose w h p) p)
    grid-next l g = grid-cut (columns l g) g

    -- After t cuts the picture is t columns narrower.
    pub carve-grid : (t w h : ℕ) (p : List (List A)) → Grid w h p → t ≤ w → Grid (w - t) h (carve choose t w h p)
    carve-grid zero w h p g l = let z : w - 0 ≡ w = omega arith in rw z g
    carve-grid (suc t) w h p g l =
        let z : w - suc t ≡ w - 1 - t = omega arith in
        rw z (carve-grid t (w - 1) h (cut (choose w h p) p) (grid-next (omega arith) g) (omega arith))

    -- It keeps what holds of each pixel.
    pub carve-each : {P : A → Type 0} (t w h : ℕ) (p : List (List A)) → t < w → Each (Each P w) h p → Each (Each P (w - t)) h (carve choose t w h p)
    carve-each zero w h p l g = let z : w - 0 ≡ w = omega arith in rw z g
    carve-each (suc t) w h p l g =
        let z : w - suc t ≡ w - 1 - t = omega arith in
        rw z
        (carve-each t (w - 1) h (cut (choose w h p) p) (omega arith)
        (cut_narrower w (omega arith) (good.inside w h p (omega arith) (grid_of g)) g))

    -- The map has the picture's shape.
    pub map-grid : (k w h : ℕ) (p : List (List A)) → Grid w h p → k ≤ w → Grid w h (map_of choose k w h p)
    map-grid zero w h p g l = grid-zeros g
    map-grid (suc k) w h p g l =
        grid-number (columns (omega arith) g) (map-grid k (w - 1) h (cut (choose w h p) p) (grid-next (omega arith) g) (omega arith))

    -- Each row of the map is a numbering of 1 to k.
    pub map-numbered : (k w h : ℕ) (p : List (List A)) → Grid w h p → k ≤ w → Each (Numbering k) h (map_of choose k w h p)
    map-numbered zero w h p g l = numbered-zeros g
    map-numbered (suc k) w h p g l =
        numbered-number (columns (omega arith) g) (map-numbered k (w - 1) h (cut (choose w h p) p) (grid-next (omega arith) g) (omega arith))

    -- The builder's step: to write t + 1 over the s-th zero of each row, s being the next seam's column, turns the map of depth t
    -- into that of depth t + 1.
    pub map_next : (t w h : ℕ) (p : List (List A)) → Grid w h p → t < w
        → map_of choose (suc t) w h p ≡ write_all (suc t) (choose (w - t) h (carve choose t w h p)) (map_of choose t w h p)
    map_next zero w h p g l = let z : w - 0 ≡ w = omega arith in rw z (sym (write-first (columns l g) g))
    map_next (suc t) w h p g l =
        let z : w - suc t ≡ w - 1 - t = omega arith in
        rw z
        (ap (number (choose w h p)) (map_next t (w - 1) h (cut (choose w h p) p) (grid-next (omega arith) g) (omega arith))
        ∙ sym (write-number t (choose w h p) (choose (w - 1 - t) h (carve choose (suc t) w h p)) (map_of choose t (w - 1) h (cut (choose w h p) p))))

    -- Before seam t + 1 the map leaves the picture after t cuts.
    pub before-map : (t k w h : ℕ) (p : List (List A)) → Grid w h p → t ≤ k → k ≤ w → before (suc t) p (map_of choose k w h p) ≡ carve choose t w h p
    before-map zero k w h p g m l = before-all g (map-grid k w h p g l)
    before-map (suc t) zero w h p g m l = absurd (omega arith)
    before-map (suc t) (suc k) w h p g m l =
        before-number t (choose w h p) p (map_of choose k (w - 1) h (cut (choose w h p) p))
        ∙ before-map t k (w - 1) h (cut (choose w h p) p) (grid-next (omega arith) g) (omega arith) (omega arith)

    -- The seam t + 1 that it records is the one chosen there.
    pub recorded-map : (t k w h : ℕ) (p : List (List A)) → Grid w h p → t < k → k ≤ w
        → recorded (suc t) (map_of choose k w h p) ≡ choose (w - t) h (carve choose t w h p)
    recorded-map t zero w h p g m l = absurd (omega arith)
    recorded-map zero (suc k) w h p g m l =
        let z : w - 0 ≡ w = omega arith in
        rw z (recorded-first (columns (omega arith) g) (map-grid k (w - 1) h (cut (choose w h p) p) (grid-next (omega arith) g) (omega arith)))
    recorded-map (suc t) (suc k) w h p g m l =
        let z : w - suc t ≡ w - 1 - t = omega arith in
        rw z
        (recorded-number t (columns (omega arith) g) (map-grid k (w - 1) h (cut (choose w h p) p) (grid-next (omega arith) g) (omega arith))
        ∙ recorded-map t k (w - 1) h (cut (choose w h p) p) (grid-next (omega arith) g) (omega arith) (omega arith))

    -- After t seams the map is the map of the picture that is left.
    pub lower-map : (t k w h : ℕ) (p : List (List A)) → Grid w h p → t ≤ k → k ≤ w
        → lower t (map_of choose k w h p) ≡ map_of choose (k - t) (w - t) h (carve choose t w h p)
    lower-map zero k w h p g m l =
        let z : w - 0 ≡ w = omega arith in
        let y : k - 0 ≡ k = omega arith in
        rw (z, y) (lower_zero (map_of choose k w h p))
    lower-map (suc t) zero w h p g m l = absurd (omega arith)
    lower-map (suc t) (suc k) w h p g m l =
        let z : w - suc t ≡ w - 1 - t = omega arith in
        let y : suc k - suc t ≡ k - t = omega arith in
        rw (z, y)
        (lower-number t (columns (omega arith) g) (map-grid k (w - 1) h (cut (choose w h p) p) (grid-next (omega arith) g) (omega arith))
        ∙ lower-map t k (w - 1) h (cut (choose w h p) p) (grid-next (omega arith) g) (omega arith) (omega arith))
