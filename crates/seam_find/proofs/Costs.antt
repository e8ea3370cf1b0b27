-- Bounds of costs, so that no sum overflows.
use mathlib.Core.Path.{◌≡◌}
use mathlib.Core.Logic.{⊎_elim}
use mathlib.Core.List.{List}
use Prim.Native.Nat.{ℕ, ◌*◌, ◌≤◌, ◌<◌}
use native.Mathlib.Nat.{mul-le-mul}
use native.Mathlib.Omega.{arith}
use lib.ListN.{length, get_or}
use Rattle.grids.specs.Table.{table}
use Rattle.grids.proofs.Orders.{le-or-lt}
use Rattle.grids.proofs.Tables.{length-table, table_at, table-past}
use Rattle.pictures.specs.declared.sizes.Size.{Size}
use Rattle.pictures.specs.Pictures.{channels_of, largest_sample, picture}
use Rattle.energy.specs.declared.methods.Method.{Method}
use Rattle.energy.specs.Bounds.{most_energy}
use Rattle.energy.specs.Energy.{StepCosts, costs_at}
use Rattle.seam_theory.specs.Sums.{cost_rows}
use Rattle.pictures.proofs.Limits.{Sized}
use Rattle.energy.proofs.Most.{sample-most, CostsMost, costs-within, buffer_costs-most}
use Rattle.seam_find.specs.Costing.{plain_costs, RowsMost}

-- A pixel costs at most two differences of the largest sample in at most three channels.
pub pixel-most : (z : Size) (how : Method) (b : List ℕ) → Sized z (length b) → ((i : ℕ) → get_or b i 0 ≤ 255)
    → (r c : ℕ) → CostsMost most_energy (costs_at how z.width z.height (picture z b) r c)
pixel-most z how b s h r c =
    costs-within (2 * (channels_of z.kind * largest_sample z.kind)) most_energy _ (omega (arith, mul-le-mul s.channels_most (sample-most z.kind)))
    (buffer_costs-most z how b s.length_is h z.width z.height r c)

-- A bound of all values is one of a table.
pub table-most : (f : ℕ → ℕ) (n m : ℕ) → ((c : ℕ) → f c ≤ m) → (k : ℕ) → get_or (table f n) k 0 ≤ m
table-most f n m h k =
    ⊎_elim
    (λ (l : n ≤ k). rw (table-past f n k 0 l) (omega arith))
    (λ (l : k < n). rw (table_at f n k 0 l) (h k))
    (le-or-lt n k)

pub rows-most : (most w : ℕ) (k : ℕ → StepCosts) → ((c : ℕ) → CostsMost most (k c)) → RowsMost most (cost_rows w k)
rows-most most w k h = record {
  left = table-most (λ c. (k c).left) w most (λ c. (h c).left);
  up = table-most (λ c. (k c).up) w most (λ c. (h c).up);
  right = table-most (λ c. (k c).right) w most (λ c. (h c).right);
}

-- The costs of a row.
pub cost_most : (z : Size) (how : Method) (b : List ℕ) → Sized z (length b) → ((i : ℕ) → get_or b i 0 ≤ 255) → (i : ℕ) → RowsMost most_energy (plain_costs z how b i)
cost_most z how b s h i = rows-most most_energy z.width (costs_at how z.width z.height (picture z b) i) (pixel-most z how b s h i)

pub costs-long : (z : Size) (how : Method) (b : List ℕ) (i : ℕ) → length (plain_costs z how b i).up ≡ z.width
costs-long z how b i = length-table _ z.width
