-- What the pixels of the first columns cost, where these columns are all that is left of a picture: of the rows only what is left is read.
use mathlib.Core.Path.{◌≡◌, refl, ap}
use mathlib.Core.Logic.{⊎_elim}
use mathlib.Core.Bool.{Bool, true, false, cond}
use mathlib.Core.Option.{Option, none, some, map, some-injective, none-ne-some}
use mathlib.Core.List.{[]}
use Prim.Native.Nat.{ℕ, ◌+◌, ◌-◌, ◌≤◌, ◌<◌}
use native.Mathlib.Omega.{arith}
use lib.Dec.{ltb}
use borrow.Author.Tests.{le-ltb, lt-ltb}
use Rattle.grids.specs.Table.{table}
use Rattle.grids.proofs.Orders.{le-or-lt}
use Rattle.grids.proofs.Tables.{table_same}
use Rattle.pictures.specs.Pictures.{Picture, pixel}
use Rattle.energy.specs.Around.{left_of, right_of, above_of, below_of, around}
use Rattle.energy.specs.declared.methods.Method.{Method}
use Rattle.energy.specs.declared.pixels.Step.{Step}
use Rattle.energy.specs.Methods.{wrap_of}
use Rattle.energy.specs.Energy.{costs_from, costs_at}
use Rattle.energy.specs.Pixels.{cost_to}
use Rattle.seam_planes.specs.Planes.{fronts}
use Rattle.seam_planes.proofs.Fronts.{fronts_at}
use Rattle.seam_keep.specs.Keeping.{cost_grid}

-- A pixel of what is left.
pub pixel_front : (w : ℕ) (p : Picture) (r c : ℕ) → c < w → pixel (fronts w p) r c ≡ pixel p r c
pixel_front w p r c l = fronts_at w p r c [] l

-- Where something is done to neighbours that have a property.
map_inside : {B : Type 0} (f g : ℕ → B) (o : Option ℕ) → ((a : ℕ) → o ≡ some a → f a ≡ g a) → map f o ≡ map g o
map_inside f g none same = refl
map_inside f g (some a) same = ap some (same a refl)

-- The neighbours of a pixel in its row are inside the row.
module _ (wrap : Bool) (w c : ℕ) (column : c < w) where
  left_inside : (a : ℕ) → left_of wrap w c ≡ some a → a < w
  unfolding left_of
  left_inside a e = go (ltb 0 c) wrap e
    where
      go : (t u : Bool) → cond t (some (c - 1)) (cond u (some (w - 1)) none) ≡ some a → a < w
      go true u e = let z : c - 1 ≡ a = some-injective (c - 1) a e in omega arith
      go false true e = let z : w - 1 ≡ a = some-injective (w - 1) a e in omega arith
      go false false e = absurd (none-ne-some a e)

  right_inside : (a : ℕ) → right_of wrap w c ≡ some a → a < w
  unfolding right_of
  right_inside a e =
      ⊎_elim
      (λ (l : w ≤ c + 1). past wrap (rw (le-ltb (c + 1) w l) at e))
      (λ (l : c + 1 < w). let z : c + 1 ≡ a = some-injective (c + 1) a (rw (lt-ltb (c + 1) w l) at e) in omega arith)
      (le-or-lt w (c + 1))
    where
      past : (u : Bool) → cond u (some 0) none ≡ some a → a < w
      past true e = let z : 0 ≡ a = some-injective 0 a e in omega arith
      past false e = absurd (none-ne-some a e)

  -- So a pixel has the neighbours that it has in the whole picture.
  pub around_fronts : (h : ℕ) (p : Picture) (r : ℕ) → around wrap w h (fronts w p) r c ≡ around wrap w h p r c
  around_fronts h p r = λ i. record {
    it = pixel_front w p r c column i;
    left = map_inside (pixel (fronts w p) r) (pixel p r) (left_of wrap w c) (λ a e. pixel_front w p r a (left_inside a e)) i;
    right = map_inside (pixel (fronts w p) r) (pixel p r) (right_of wrap w c) (λ a e. pixel_front w p r a (right_inside a e)) i;
    up = map_inside (λ a. pixel (fronts w p) a c) (λ a. pixel p a c) (above_of r) (λ a e. pixel_front w p a c column) i;
    down = map_inside (λ a. pixel (fronts w p) a c) (λ a. pixel p a c) (below_of h r) (λ a e. pixel_front w p a c column) i;
  }

-- It costs what it costs there,
pub costs_fronts : (how : Method) (w h : ℕ) (p : Picture) (r c : ℕ) → c < w → costs_at how w h (fronts w p) r c ≡ costs_at how w h p r c
unfolding costs_at
costs_fronts how w h p r c l = ap (costs_from how.energy) (around_fronts (wrap_of how) w c l h p r)

-- and so do all.
pub grid_fronts : (how : Method) (from : Step) (w h : ℕ) (p : Picture) → cost_grid how from w h (fronts w p) ≡ cost_grid how from w h p
unfolding cost_grid
grid_fronts how from w h p =
    table_same (λ r. table (λ c. cost_to from (costs_at how w h (fronts w p) r c)) w) (λ r. table (λ c. cost_to from (costs_at how w h p r c)) w) h
    (λ r row. table_same (λ c. cost_to from (costs_at how w h (fronts w p) r c)) (λ c. cost_to from (costs_at how w h p r c)) w
    (λ c l. ap (cost_to from) (costs_fronts how w h p r c l)))
