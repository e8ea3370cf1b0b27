-- The steps of the seams that a map records, row by row.
use mathlib.Core.Path.{◌≡◌, refl, sym, ap, ap₂, ◌∙◌}
use mathlib.Core.Bool.{Bool, true, false}
use mathlib.Core.List.{List, []}
use Prim.Native.Nat.{ℕ, suc, ◌+◌, ◌≤◌, ◌<◌}
use native.Mathlib.Numerals.{add-one}
use native.Mathlib.Omega.{arith}
use lib.Dec.{leb}
use borrow.Author.Tests.{leb-true, leb-false}
use lib.ListN.{length, get_or, length-map}
use Rattle.grids.specs.Rows.{rows_of, row_at}
use Rattle.grids.proofs.Rows.{length-rows_of, rows_of_at}
use Rattle.grids.proofs.Shapes.{get_or-map}
use Rattle.seam_theory.specs.Paths.{run, near, beside}
use Rattle.seam_theory.specs.Connected.{linked}
use Rattle.seam_theory.proofs.Linked.{linked_all, linked_broken}
use Rattle.map_theory.specs.Judged.{every, column_of, recorded, connected}
use Rattle.map_theory.proofs.Judged.{connected_is}
use Rattle.map_theory.proofs.Tests.{every-run}

-- One of 1 to k that doesn't pass is enough.
run_bad : (f : ℕ → Bool) (k t : ℕ) → 1 ≤ t → t ≤ k → f t ≡ false → every f (run 1 k) ≡ false
run_bad f k t l h e = go (every f (run 1 k)) refl
  where
    go : (b : Bool) → every f (run 1 k) ≡ b → b ≡ false
    go true q = sym ((every-run f k).0 q t l h) ∙ e
    go false q = refl

-- The recorded seams of a map of h rows of w numbers.
module _ (ys : List ℕ) (w : ℕ) where
  -- Whether the step of seam t from row r to the next one is connected.
  abbrev pub step : ℕ → ℕ → Bool
  step r t = beside (column_of t (row_at w r ys)) (column_of t (row_at w (r + 1) ys))

  -- Seams 1 to k are connected down to row r; and seams 1 to u - 1 from row r to the next one.
  abbrev pub Joined : ℕ → ℕ → Type 0
  Joined k r = (q t : ℕ) → q < r → 1 ≤ t → t ≤ k → step q t ≡ true

  abbrev pub JoinedHere : ℕ → ℕ → Type 0
  JoinedHere r u = (t : ℕ) → 1 ≤ t → t < u → step r t ≡ true

  pub here_more : (r u : ℕ) → step r u ≡ true → JoinedHere r u → JoinedHere r (u + 1)
  here_more r u e so_far t l m = go (leb u t) refl
    where
      go : (b : Bool) → leb u t ≡ b → step r t ≡ true
      go true q = let last : t ≡ u = omega (arith, leb-true u t q) in ap (step r) last ∙ e
      go false q = so_far t l (leb-false u t q)

  pub joined_more : (k r u : ℕ) → k < u → JoinedHere r u → Joined k r → Joined k (r + 1)
  joined_more k r u h here so_far q t l m n = go (leb r q) refl
    where
      go : (b : Bool) → leb r q ≡ b → step q t ≡ true
      go true e = let last : q ≡ r = omega (arith, leb-true r q e) in ap (λ p. step p t) last ∙ here t m (omega arith)
      go false e = so_far q t (leb-false r q e) m n

  module _ (h : ℕ) where
    abbrev seam : ℕ → List ℕ
    seam t = recorded t (rows_of w h ys)

    seam_long : (t : ℕ) → length (seam t) ≡ h
    seam_long t = length-map (rows_of w h ys) (column_of t) ∙ length-rows_of w h ys

    seam_at : (t r : ℕ) → r < h → get_or (seam t) r 0 ≡ column_of t (row_at w r ys)
    seam_at t r l = get_or-map (column_of t) (rows_of w h ys) r [] 0 (rw (length-rows_of w h ys) l) ∙ ap (column_of t) (rows_of_at w h ys r l)

    step_is : (t r : ℕ) → suc r < h → beside (get_or (seam t) r 0) (get_or (seam t) (suc r) 0) ≡ step r t
    step_is t r l =
        ap₂ beside (seam_at t r (omega arith)) (seam_at t (suc r) l ∙ ap (λ q. column_of t (row_at w q ys)) (sym (add-one r)))

    -- All are connected where the loops end, and one isn't where they are left.
    pub all_joined : (k r : ℕ) → h ≤ r + 1 → Joined k r → connected (near false) w k (rows_of w h ys) ≡ true
    all_joined k r l so_far =
        (connected_is (near false) w k (rows_of w h ys)).1
        (λ t a b. linked_all beside (seam t) (λ i m. step_is t i (rw (seam_long t) at m) ∙ so_far i t (omega (arith, m, seam_long t)) a b))

    pub one_broken : (k r t : ℕ) → r + 1 < h → 1 ≤ t → t ≤ k → step r t ≡ false → connected (near false) w k (rows_of w h ys) ≡ false
    unfolding connected
    one_broken k r t l a b e =
        run_bad (λ q. linked beside (seam q)) k t a b
        (linked_broken beside (seam t) r (omega (arith, seam_long t)) (step_is t r (omega arith) ∙ e))
