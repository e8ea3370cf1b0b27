-- "Energy and seams", what a pixel costs, by its neighbours; and the operation that gives a row's energies.
use Rattle.std.specs.Prelude.{◌≡◌, Result, Bool, true, false, cond, ◌||◌, List, [], ◌∷◌, ◌++◌, ℕ, ◌+◌, ◌-◌, leb, ltb, eqb, length, drop}
use Rattle.std.proofs.Math.Option.{Option, none, some, or_else, get_or}
use Rattle.grids.specs.Table.{table}
use Rattle.pictures.specs.declared.sizes.Size.{Size}
use Rattle.pictures.specs.declared.refusals.Refusal.{Refusal}
use Rattle.pictures.specs.Refusals.{◌when◌, Rule, given, refusal, served}
use Rattle.pictures.specs.Pictures.{Picture, picture, size_rules}
use Rattle.energy.specs.declared.methods.EnergyRule.{EnergyRule}
use Rattle.energy.specs.declared.methods.EnergyRule.TheVariants.{Edge, Flat, Forward}
use Rattle.energy.specs.declared.methods.Method.{Method}
use Rattle.energy.specs.Methods.{wrap_of}
use Rattle.energy.specs.Around.{Around, left_of, around}

-- |a - b|
abbrev pub apart : ℕ → ℕ → ℕ
apart a b = (a - b) + (b - a)

-- How far two pixels are apart, the channels added.
unfoldable pub difference : List ℕ → List ℕ → ℕ
difference [] q = 0
difference (a ∷ p) [] = 0
difference (a ∷ p) (b ∷ q) = apart a b + difference p q

-- How far a neighbour is from a pixel; 0 where there is none.
abbrev pub away : List ℕ → Option (List ℕ) → ℕ
away it none = 0
away it (some q) = difference q it

-- "|right neighbour − it| + |lower neighbour − it|. A difference that would reach past the edge is 0. The channels are added."
abbrev pub flat : Around → ℕ
flat a = away a.it a.right + away a.it a.down

-- Change 101: "At the last column the difference is now taken to the left neighbour, and at the last row to the upper one; at
-- width 1 or height 1 it stays 0."
abbrev pub edge : Around → ℕ
edge a = away a.it (or_else a.right a.left) + away a.it (or_else a.down a.up)

-- What coming to a pixel costs: from the column to the left in the row above, from straight above, from the column to the
-- right.
pub record StepCosts : Type 0 where
  pub left : ℕ
  pub up : ℕ
  pub right : ℕ

abbrev pub alike : ℕ → StepCosts
alike e = record { left = e; up = e; right = e }

-- Change 103: what taking out a pixel adds, "absolute differences added over channels", by source 000, section 3.10. In row i and
-- column j, "P being 0":
--   (a) C_L(i, j) = |I(i, j+1) − I(i, j−1)| + |I(i−1, j) − I(i, j−1)|
--   (b) C_U(i, j) = |I(i, j+1) − I(i, j−1)|
--   (c) C_R(i, j) = |I(i, j+1) − I(i, j−1)| + |I(i−1, j) − I(i, j+1)|
-- "A neighbour past the side edge is the pixel itself. In the first row the cost is C_U": there is none above it.
module _ (a : Around) where
  abbrev pub left_or_it : List ℕ
  left_or_it = get_or a.left a.it

  abbrev pub right_or_it : List ℕ
  right_or_it = get_or a.right a.it

  abbrev pub across : ℕ
  across = difference right_or_it left_or_it

  abbrev pub forward : StepCosts
  forward = record { left = across + away left_or_it a.up; up = across; right = across + away right_or_it a.up }

-- Change 102: "`(energy edge)` for the rule of #101 or `(energy flat)` for the older one"; change 103: "the file says
-- `(energy forward)`". By each rule: what coming to a pixel costs, from its neighbours. By edge and flat it is the pixel's energy,
-- wherever a path comes from.
unfoldable pub costs_from : EnergyRule → Around → StepCosts
costs_from Edge a = alike (edge a)
costs_from Flat a = alike (flat a)
costs_from Forward a = forward a

-- Whether by a rule it is the same wherever a path comes from.
abbrev pub one_cost : EnergyRule → Bool
one_cost Edge = true
one_cost Flat = true
one_cost Forward = false

-- What a pixel costs in row r and column c of a picture of w columns and h rows, by a method.
unfoldable pub costs_at : Method → ℕ → ℕ → Picture → ℕ → ℕ → StepCosts
costs_at how w h p r c = costs_from how.energy (around (wrap_of how) w h p r c)

-- The energy of a pixel: its cost where a path comes from straight above, or begins.
abbrev pub energy : Method → ℕ → ℕ → Picture → ℕ → ℕ → ℕ
energy how w h p r c = (costs_at how w h p r c).up

-- Whether a column is this one.
abbrev pub is_the : Option ℕ → ℕ → Bool
is_the none a = false
is_the (some b) a = eqb a b

-- Which of the three costs is that of coming to column c of w from column a of the row above.
unfoldable pub toward : Bool → ℕ → ℕ → ℕ → StepCosts → ℕ
toward wrap w a c k = cond (eqb a c) k.up (cond (is_the (left_of wrap w c) a) k.left k.right)

-- The cost of coming to column c of row i from column a of the row above.
abbrev pub step_of : Method → ℕ → ℕ → Picture → ℕ → ℕ → ℕ → ℕ
step_of how w h p i a c = toward (wrap_of how) w a c (costs_at how w h p i c)

-- The energies of row r.
abbrev pub energies : Method → ℕ → ℕ → Picture → ℕ → List ℕ
energies how w h p r = table (energy how w h p r) w

-- All energies of a picture, row by row.
abbrev pub energy_grid : Method → ℕ → ℕ → Picture → List (List ℕ)
energy_grid how w h p = table (energies how w h p) h

-- When the energies of row r are refused: as the picture is, where there is no such row, and where the space is shorter
-- than the row.
abbrev pub energies_rules : Size → ℕ → ℕ → ℕ → List Rule
energies_rules z bytes r space = size_rules z bytes ++ (4 when leb z.height r ∷ 8 when ltb space z.width ∷ [])

-- What the operation gives: the number, and the space, which keeps what stands after the row's energies.
pub record EnergiesGiven (b : List ℕ) (z : Size) (how : Method) (r : ℕ) (out : List ℕ) (answer : Result (Unit {0}) Refusal) (out' : List ℕ) : Type 0 where
  pub number : given answer ≡ refusal (energies_rules z (length b) r (length out))
  pub out_given : out' ≡ served (given answer) (energies how z.width z.height (picture z b) r ++ drop z.width out) out

-- The costs of row r of coming from the left, and from the right; those from straight above are its energies.
abbrev pub left_costs : Method → ℕ → ℕ → Picture → ℕ → List ℕ
left_costs how w h p r = table (λ c. (costs_at how w h p r c).left) w

abbrev pub right_costs : Method → ℕ → ℕ → Picture → ℕ → List ℕ
right_costs how w h p r = table (λ c. (costs_at how w h p r c).right) w

-- When all three are refused: as energies are, where one of the three spaces is shorter than the row.
abbrev pub step_costs_rules : Size → ℕ → ℕ → ℕ → ℕ → ℕ → List Rule
step_costs_rules z bytes r left up right =
    size_rules z bytes ++ (4 when leb z.height r ∷ 8 when (ltb left z.width || (ltb up z.width || ltb right z.width)) ∷ [])

-- What the operation gives: the number, and the three spaces, each of which keeps what stands after its row.
pub record StepCostsGiven (b : List ℕ) (z : Size) (how : Method) (r : ℕ) (left up right : List ℕ) (answer : Result (Unit {0}) Refusal) (left' up' right' : List ℕ) : Type 0 where
  pub number : given answer ≡ refusal (step_costs_rules z (length b) r (length left) (length up) (length right))
  pub left_given : left' ≡ served (given answer) (left_costs how z.width z.height (picture z b) r ++ drop z.width left) left
  pub up_given : up' ≡ served (given answer) (energies how z.width z.height (picture z b) r ++ drop z.width up) up
  pub right_given : right' ≡ served (given answer) (right_costs how z.width z.height (picture z b) r ++ drop z.width right) right
