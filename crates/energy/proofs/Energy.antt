-- Laws of energies: from the bytes of two rows, and with rows and columns exchanged.
use mathlib.Core.Path.{◌≡◌, refl, sym, ap, ap₂, ◌∙◌}
use mathlib.Core.Logic.{⊎_elim}
use mathlib.Core.Bool.{Bool, true, false}
use mathlib.Core.Option.{Option, none, some, map, or_else}
use mathlib.Core.List.{List, [], ◌∷◌}
use Prim.Native.Nat.{ℕ, ◌+◌, ◌-◌, ◌*◌, ◌≤◌, ◌<◌}
use native.Mathlib.Nat.{add_comm}
use native.Mathlib.Omega.{arith}
use borrow.Author.Tests.{lt-ltb, le-ltb}
use lib.ListN.{length, take, drop}
use Rattle.grids.specs.Each.{Grid}
use Rattle.grids.specs.Table.{table}
use Rattle.grids.specs.Rows.{row_at}
use Rattle.grids.specs.Exchange.{exchange}
use Rattle.grids.proofs.Orders.{le-or-lt}
use Rattle.grids.proofs.Tables.{table_same}
use Rattle.grids.proofs.Exchange.{exchange_at, exchange-table}
use Rattle.pictures.specs.declared.sizes.Size.{Size}
use Rattle.pictures.specs.Pictures.{Picture, channels_of, row_bytes, picture_bytes, picture, pixel}
use Rattle.energy.specs.Around.{left_of, right_of, above_of, below_of, around}
use Rattle.energy.specs.declared.methods.EnergyRule.{EnergyRule}
use Rattle.energy.specs.declared.methods.EnergyRule.TheVariants.{Edge, Flat, Forward}
use Rattle.energy.specs.declared.methods.Method.{Method}
use Rattle.energy.specs.Methods.{wrap_of}
use Rattle.energy.specs.Energy.{difference, away, costs_from, one_cost, costs_at, energy, energies, energy_grid}
use Rattle.energy.specs.Inner.{right_column, between, past_last, neighbour_of}
use Rattle.pictures.proofs.Buffers.{pixel_plain}
use Rattle.energy.proofs.Steps.{not-forward}

-- A pixel has no difference to itself.
pub difference_self : (p : List ℕ) → difference p p ≡ 0
unfolding difference
difference_self [] = refl
difference_self (a ∷ p) = omega (arith, difference_self p)

-- What holds of 0 and of the difference to each pixel of a line holds of the difference to a neighbour on it,
pub away_holds : (P : ℕ → Type 0) (it : List ℕ) (q : ℕ → List ℕ) → P 0 → ((a : ℕ) → P (difference (q a) it))
    → (o : Option ℕ) → P (away it (map q o))
away_holds P it q none-there each none = none-there
away_holds P it q none-there each (some a) = each a

-- and by a rule of one cost an energy is the differences to two neighbours, one in the row and one in the column, where there are
-- such.
pub record TwoNeighbours (rule : EnergyRule) (wrap : Bool) (w h : ℕ) (p : Picture) (r c : ℕ) : Type 0 where
  pub beside : Option ℕ
  pub below : Option ℕ
  pub energy_is : (costs_from rule (around wrap w h p r c)).up ≡ away (pixel p r c) (map (pixel p r) beside) + away (pixel p r c) (map (λ a. pixel p a c) below)

else_map : {A B : Type 0} (q : A → B) (o else : Option A) → or_else (map q o) (map q else) ≡ map q (or_else o else)
unfolding or_else
else_map q none else = refl
else_map q (some a) else = refl

pub two_neighbours : (rule : EnergyRule) → one_cost rule ≡ true → (wrap : Bool) (w h : ℕ) (p : Picture) (r c : ℕ) → TwoNeighbours rule wrap w h p r c
unfolding costs_from
two_neighbours Edge one wrap w h p r c = record {
  beside = or_else (right_of wrap w c) (left_of wrap w c);
  below = or_else (below_of h r) (above_of r);
  energy_is =
      ap₂ (λ x y. away (pixel p r c) x + away (pixel p r c) y) (else_map (pixel p r) (right_of wrap w c) (left_of wrap w c)) (else_map (λ a. pixel p a c) (below_of h r) (above_of r));
}
two_neighbours Flat one wrap w h p r c = record { beside = right_of wrap w c; below = below_of h r; energy_is = refl }
two_neighbours Forward one wrap w h p r c = absurd (not-forward one)

-- The line that stands for the one after the last is no later one,
past_last_lem : (rule : EnergyRule) (i : ℕ) → past_last rule i ≤ i
past_last_lem Edge i = omega arith
past_last_lem Flat i = omega arith
past_last_lem Forward i = omega arith

-- so that the one for the line after line i is one of the n.
pub neighbour_inside : (rule : EnergyRule) (i n : ℕ) → i < n → neighbour_of rule i n < n
neighbour_inside rule i n h =
    ⊎_elim
    (λ (l : n ≤ i + 1). rw (le-ltb (i + 1) n l) (omega (arith, past_last_lem rule i)))
    (λ (l : i + 1 < n). rw (lt-ltb (i + 1) n l) l)
    (le-or-lt n (i + 1))

-- The difference of pixel i of n that stand in a row or a column: to the one after it, or else by `edge` to the one before.
abbrev difference_at : EnergyRule → (ℕ → List ℕ) → ℕ → ℕ → ℕ
difference_at Edge q i n = away (q i) (or_else (map q (below_of n i)) (map q (above_of i)))
difference_at rule q i n = away (q i) (map q (below_of n i))

-- By a rule of one cost an energy is that of the pixel in its row and that in its column.
energy-both : (rule : EnergyRule) → one_cost rule ≡ true → (w h : ℕ) (p : Picture) (r c : ℕ)
    → (costs_from rule (around false w h p r c)).up ≡ difference_at rule (pixel p r) c w + difference_at rule (λ a. pixel p a c) r h
unfolding costs_from left_of right_of above_of below_of
energy-both Edge one w h p r c = refl
energy-both Flat one w h p r c = refl
energy-both Forward one w h p r c = absurd (not-forward one)

-- Each is the difference to the line that stands for the one after: by flat,
flat_difference : (q : ℕ → List ℕ) (i n : ℕ) → i < n → difference_at Flat q i n ≡ difference (q (neighbour_of Flat i n)) (q i)
unfolding below_of
flat_difference q i n h =
    ⊎_elim
    (λ (l : n ≤ i + 1). rw (le-ltb (i + 1) n l, difference_self))
    (λ (l : i + 1 < n). rw (lt-ltb (i + 1) n l))
    (le-or-lt n (i + 1))

-- by edge,
edge_difference : (q : ℕ → List ℕ) (i n : ℕ) → i < n → difference_at Edge q i n ≡ difference (q (neighbour_of Edge i n)) (q i)
unfolding below_of above_of or_else
edge_difference q i n h =
    ⊎_elim
    (λ (l : n ≤ i + 1).
    ⊎_elim
    (λ (m : i ≤ 0).
    let none_before : i - 1 ≡ i = omega arith in
    rw (le-ltb (i + 1) n l, le-ltb 0 i m, none_before, difference_self))
    (λ (m : 0 < i). rw (le-ltb (i + 1) n l, lt-ltb 0 i m))
    (le-or-lt i 0))
    (λ (l : i + 1 < n). rw (lt-ltb (i + 1) n l))
    (le-or-lt n (i + 1))

-- and so by each rule of one cost.
neighbour_difference : (rule : EnergyRule) → one_cost rule ≡ true → (q : ℕ → List ℕ) (i n : ℕ) → i < n
    → difference_at rule q i n ≡ difference (q (neighbour_of rule i n)) (q i)
neighbour_difference Edge one = edge_difference
neighbour_difference Flat one = flat_difference
neighbour_difference Forward one = absurd (not-forward one)

-- So an energy is the differences to the pixels that stand for the right and the lower neighbour.
pub energy-neighbours : (rule : EnergyRule) → one_cost rule ≡ true → (w h : ℕ) (p : Picture) (r c : ℕ) → r < h → c < w
    → (costs_from rule (around false w h p r c)).up
    ≡ difference (pixel p r (neighbour_of rule c w)) (pixel p r c) + difference (pixel p (neighbour_of rule r h) c) (pixel p r c)
energy-neighbours rule one w h p r c l m =
    energy-both rule one w h p r c
    ∙ ap₂ ◌+◌ (neighbour_difference rule one (pixel p r) c w m) (neighbour_difference rule one (λ a. pixel p a c) r h l)

-- The loop over a row takes the difference of each column to that line.
right_column_lem : (rule : EnergyRule) (w c : ℕ) → c < w → right_column w (neighbour_of rule (w - 1) w) c ≡ neighbour_of rule c w
right_column_lem rule w c h =
    ⊎_elim
    (λ (l : w ≤ c + 1).
    let last : w - 1 ≡ c = omega arith in
    rw (last, le-ltb (c + 1) w l))
    (λ (l : c + 1 < w). rw (lt-ltb (c + 1) w l))
    (le-or-lt w (c + 1))

-- The energy of a pixel, from the bytes of its row and of the row that stands for the one below it.
pub energy-between : (z : Size) (how : Method) → one_cost how.energy ≡ true → (b : List ℕ) → length b ≡ picture_bytes z → (r c : ℕ) → r < z.height → c < z.width
    → energy how z.width z.height (picture z b) r c
    ≡ between (channels_of z.kind) (take (row_bytes z) (drop (r * row_bytes z) b)) (take (row_bytes z) (drop (neighbour_of how.energy r z.height * row_bytes z) b)) z.width (neighbour_of how.energy (z.width - 1) z.width) c
unfolding wrap_of costs_at between
energy-between z how one b e r c h l =
    energy-neighbours rule one w z.height p r c h l ∙ ap₂ ◌+◌ right below
  where
    rule : EnergyRule
    rule = how.energy

    p : Picture
    p = picture z b

    w : ℕ
    w = z.width

    n : ℕ
    n = neighbour_of rule r z.height

    -- The pixel in column a of row i of the buffer.
    at : ℕ → ℕ → List ℕ
    at i a = row_at (channels_of z.kind) a (row_at (row_bytes z) i b)

    right : difference (pixel p r (neighbour_of rule c w)) (pixel p r c) ≡ difference (at r (right_column w (neighbour_of rule (w - 1) w) c)) (at r c)
    right = rw (right_column_lem rule w c l, pixel_plain z b e r c h, pixel_plain z b e r (neighbour_of rule c w) h)

    below : difference (pixel p n c) (pixel p r c) ≡ difference (at n c) (at r c)
    below = ap₂ difference (pixel_plain z b e n c (neighbour_inside rule r z.height h)) (pixel_plain z b e r c h)

-- "A horizontal seam is the vertical seam of the picture with rows and columns exchanged": by a rule of one cost the energies are
-- exchanged too.
pub energy-exchange : (how : Method) → one_cost how.energy ≡ true → {w n : ℕ} {p : Picture} → Grid w n p → (r c : ℕ) → energy how n w (exchange w p) c r ≡ energy how w n p r c
unfolding wrap_of costs_at
energy-exchange how one {w} {n} {p} g r c =
    energy-both how.energy one n w (exchange w p) c r ∙ ap both pixels-same ∙ add_comm _ _ ∙ sym (energy-both how.energy one w n p r c)
  where
    -- The energy of the pixel in row r and column c, from its column and its row.
    both : (ℕ → ℕ → List ℕ) → ℕ
    both q = difference_at how.energy (λ a. q a c) r n + difference_at how.energy (q r) c w

    pixels-same : ◌≡◌ {A = ℕ → ℕ → List ℕ} (λ r c. pixel (exchange w p) c r) (pixel p)
    pixels-same = λ i r c. exchange_at g r c [] i

-- So are all energies of a picture, row by row.
pub energy_grid-exchange : (how : Method) → one_cost how.energy ≡ true → {w n : ℕ} {p : Picture} → Grid w n p → energy_grid how n w (exchange w p) ≡ exchange w (energy_grid how w n p)
energy_grid-exchange how one {w} {n} {p} g =
    table_same (energies how n w (exchange w p)) (λ c. table (λ r. energy how w n p r c) n) w
    (λ c l. table_same (energy how n w (exchange w p) c) (λ r. energy how w n p r c) n (λ r m. energy-exchange how one g r c))
    ∙ sym (exchange-table 0 (energy how w n p) w n)
