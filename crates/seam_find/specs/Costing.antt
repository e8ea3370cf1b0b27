-- The costs that a seam is found by, whatever they are.
use Rattle.std.specs.Prelude.{◌≡◌, Bool, true, List, ℕ, ◌+◌, ◌*◌, ◌≤◌, ◌<◌, min, length, get_or, take, drop, Result}
use Rattle.pictures.specs.declared.refusals.Refusal.{Refusal}
use Rattle.pictures.specs.declared.sizes.Size.{Size}
use Rattle.pictures.specs.Limits.{most_side}
use Rattle.pictures.specs.Refusals.{given, refusal}
use Rattle.pictures.specs.Pictures.{side_rules, picture_bytes, pixels, picture}
use Rattle.energy.specs.declared.methods.Method.{Method}
use Rattle.energy.specs.Energy.{one_cost, costs_at}
use Rattle.seam_theory.specs.Sums.{CostRows, cost_rows, alike_rows}
use Rattle.seam_bounds.specs.Spaces.{bytes_after}

-- The costs of row i of a picture without marks, by a method.
abbrev pub plain_costs : Size → Method → List ℕ → ℕ → CostRows
plain_costs z how b i = cost_rows z.width (costs_at how z.width z.height (picture z b) i)

-- Three rows of w numbers one after the other: the costs of a row, of coming from the left, from straight above, from the right.
abbrev pub thirds : ℕ → List ℕ → CostRows
thirds w x = record { left = take w x; up = take w (drop w x); right = drop w (drop w x) }

-- None of a row's costs is more.
pub record RowsMost (most : ℕ) (k : CostRows) : Type 0 where
  pub left : (c : ℕ) → get_or k.left c 0 ≤ most
  pub up : (c : ℕ) → get_or k.up c 0 ≤ most
  pub right : (c : ℕ) → get_or k.right c 0 ≤ most

-- What holds of costs that are read from the front of a space: it and a byte for each pixel take the room that is asked for; a row has a
-- cost for each column, by a rule of one cost the same wherever a path comes from; none is over `dearest` where the front has bytes and is as
-- long as it has to be; and no sum reaches the fence. As they are kept, sums stay at `most`, and the fence is `end`.
pub record CostingLaws (marked : Bool) (front : Size → ℕ) (costs : Size → Method → List ℕ → ℕ → CostRows) (dearest fence most end : ℕ) : Type 0 where
  pub room : (z : Size) → front z + pixels z ≡ picture_bytes z + bytes_after z marked
  pub wide : (z : Size) (how : Method) (b : List ℕ) (i : ℕ) → length (costs z how b i).up ≡ z.width
  pub alike : (z : Size) (how : Method) → one_cost how.energy ≡ true → (b : List ℕ) (i : ℕ) → costs z how b i ≡ alike_rows (costs z how b i).up
  pub cheap : (z : Size) (how : Method) (b : List ℕ) → refusal (side_rules z) ≡ 0 → length b ≡ front z → ((i : ℕ) → get_or b i 0 ≤ 255)
      → (i : ℕ) → RowsMost dearest (costs z how b i)
  pub low : most_side * dearest + dearest < fence
  pub single : dearest < end
  pub ends : end ≡ min most fence

-- The answer from what is kept of the least sum, where the sum is below the fence: what the sum means, and no seam where it stays at `most`.
pub record LeastTold (fence most : ℕ) (means : ℕ → Result ℕ Refusal → Type 0) (kept : ℕ) (answer : Result ℕ Refusal) : Type 0 where
  pub meant : (sum : ℕ) → sum < fence → kept ≡ min most sum → means sum answer
  pub below : (sum : ℕ) → sum < fence → kept ≡ min most sum → given answer ≡ 0 → sum < most

-- Row i of a picture of this size is asked for: there is such a row, the bytes are all of the front, and both spaces have the room that it
-- takes.
pub record RowAsked (front : ℕ) (z : Size) (i room bytes energies steps : ℕ) : Type 0 where
  pub inside : i < z.height
  pub long : bytes ≡ front
  pub energies_room : energies ≡ room
  pub steps_room : steps ≡ room
