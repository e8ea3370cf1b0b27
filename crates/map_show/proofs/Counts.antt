-- The loop that counts the numbers 1 to u, and how many pixels a row shows.
use mathlib.Core.Path.{◌≡◌, refl, ◌∙◌}
use mathlib.Core.Logic.{⊎_elim}
use mathlib.Core.Bool.{Bool}
use mathlib.Core.List.{List}
use Prim.Native.Nat.{ℕ, ◌-◌, ◌≤◌, ◌<◌}
use native.Mathlib.Omega.{arith}
use borrow.Author.Tests.{le-leb, lt-leb}
use lib.ListN.{length}
use Rattle.grids.proofs.Orders.{le-or-lt}
use Rattle.map_theory.specs.Widths.{row_at_width}
use Rattle.map_theory.specs.Judged.{doubled_in}
use Rattle.map_theory.proofs.Widths.{length_keep, length_grow, at_narrow, at_wide}
use Rattle.map_show.specs.Showing.{pixels_at}

pub doubled-most : (u : ℕ) (ys : List ℕ) → doubled_in u ys ≤ length ys
doubled-most u ys = omega (arith, length_keep u ys ys refl)

-- A row of as many pixels as numbers shows as many pixels as these say.
pub pixels-shown : {A : Type 0} (mean : A → A → A) (wrap : Bool) (xs : List A) (ys : List ℕ) (v : ℕ) → length xs ≡ length ys
    → length (row_at_width mean wrap (length ys) v xs ys) ≡ pixels_at ys v
unfolding pixels_at
pixels-shown mean wrap xs ys v e = ⊎_elim narrow wide (le-or-lt v (length ys))
  where
    narrow : v ≤ length ys → length (row_at_width mean wrap (length ys) v xs ys) ≡ pixels_at ys v
    narrow h =
        rw (at_narrow mean wrap (length ys) v xs ys h, le-leb v (length ys) h)
        (omega (arith, length_keep (length ys - v) xs ys e))

    wide : length ys < v → length (row_at_width mean wrap (length ys) v xs ys) ≡ pixels_at ys v
    wide h = rw (at_wide mean wrap (length ys) v xs ys h, lt-leb v (length ys) h) (length_grow mean wrap (v - length ys) xs ys e ∙ rw e)
