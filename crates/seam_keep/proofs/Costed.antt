-- The rows of a picture's costs, put into planes two bytes a number, and what the planes then hold.
use mathlib.Core.Path.{◌≡◌, refl, sym, ap, ◌∙◌}
use mathlib.Core.Logic.{⊎_elim}
use mathlib.Core.Bool.{◌||◌}
use mathlib.Core.List.{List, [], ◌∷◌, ◌++◌}
use Prim.Native.Nat.{ℕ, ◌+◌, ◌-◌, ◌*◌, ◌≤◌, ◌<◌}
use native.Mathlib.Omega.{arith}
use borrow.Author.Tests.{lt-leb, le-ltb}
use borrow.Rule.Slice.PartMut.{mid_of, put_mid, mid_len}
use lib.Dec.{leb, ltb}
use lib.ListN.{length, get_or, take, drop}
use lib.Seq.{take_at}
use Rattle.std.specs.Prelude.{Result}
use Rattle.grids.specs.Table.{table}
use Rattle.grids.proofs.Orders.{le-or-lt}
use Rattle.grids.proofs.Rows.{part_end}
use Rattle.grids.proofs.Tables.{length-table, table_at, table-past}
use Rattle.pictures.specs.declared.sizes.Size.{Size}
use Rattle.pictures.specs.declared.refusals.Refusal.{Refusal}
use Rattle.pictures.specs.Numbers.{largest_number, pairs}
use Rattle.pictures.specs.Refusals.{◌when◌, given, refusal, served}
use Rattle.pictures.specs.Pictures.{picture, size_rules}
use Rattle.pictures.proofs.Limits.{sized-served}
use Rattle.pictures.proofs.Rules.{served-first}
use Rattle.pictures.proofs.Samples.{AreBytes}
use Rattle.energy.specs.declared.methods.Method.{Method}
use Rattle.energy.specs.declared.pixels.Step.{Step}
use Rattle.energy.specs.declared.pixels.Step.TheVariants.{Up, Left, Right}
use Rattle.energy.specs.Energy.{EnergiesGiven, StepCostsGiven}
use Rattle.energy.proofs.Served.{energies-served}
use Rattle.seam_planes.specs.Planes.{numbers_of}
use Rattle.seam_keep.specs.Keeping.{cost_grid, FillAsked}
use Rattle.seam_keep.specs.Inner.{fresh_costs}
use Rattle.seam_planes.proofs.Numbers.{RowsPut, rows_put_start, rows_put_turn, rows_put_end}
use Rattle.seam_keep.proofs.Lined.{plane_rows}
use Rattle.seam_keep.proofs.Most.{fresh_most}

-- What coming from one side to each pixel of row r costs.
abbrev pub costs_row : Method → Step → Size → List ℕ → ℕ → List ℕ
costs_row how from z b r = table (fresh_costs how from z z.width b r) z.width

module _ (z : Size) (how : Method) (b : List ℕ) where
  abbrev pub Rows : Step → List ℕ → ℕ → List ℕ → Type 0
  Rows from old r now = RowsPut (costs_row how from z b) z.width z.height old r now

  row_long : (from : Step) (r : ℕ) → r < z.height → length (costs_row how from z b r) ≡ z.width
  row_long from r l = length-table (fresh_costs how from z z.width b r) z.width

  module _ (from : Step) (old : List ℕ) (asked : FillAsked z (length b) (length old)) where
    long : length old ≡ z.height * (2 * z.width)
    long = asked.room ∙ plane_rows z

    pub costed_start : Rows from old 0 old
    costed_start = rows_put_start (costs_row how from z b) z.width z.height (row_long from) old long

    -- One row more, in the loop's terms.
    pub costed_turn : AreBytes b → (r at end : ℕ) (now new numbers : List ℕ) → r < z.height → at ≡ r * (2 * z.width) → end ≡ at + 2 * z.width → numbers ≡ costs_row how from z b r
        → ((length (mid_of at (end - at) now) ≡ 2 * length numbers) × ((i : ℕ) → get_or numbers i 0 ≤ largest_number) → new ≡ pairs numbers)
        → Rows from old r now → Rows from old (r + 1) (put_mid at (end - at) now new)
    costed_turn are r at end now new numbers inside p q is put so =
        let lent : length (mid_of at (end - at) now) ≡ 2 * z.width = mid_len at end now (omega (arith, part_end r z.height (2 * z.width) inside, so.long)) ∙ omega arith in
        rows_put_turn (costs_row how from z b) z.width z.height (row_long from) old long r at end now new inside p q
        (put (lent ∙ ap (2 *◌) (sym (ap length is ∙ row_long from r inside)), rw is low) ∙ ap pairs is) so
      where
        f : ℕ → ℕ
        f = fresh_costs how from z z.width b r

        low : (i : ℕ) → get_or (table (fresh_costs how from z z.width b r) z.width) i 0 ≤ largest_number
        low i =
            ⊎_elim
            (λ (l : z.width ≤ i). rw (table-past f z.width i 0 l) (omega arith))
            (λ (l : i < z.width). rw (table_at f z.width i 0 l) (fresh_most how from z z.width b asked.long are r i))
            (le-or-lt z.width i)

    -- After the last row.
    pub costed_end : (r : ℕ) (now : List ℕ) → z.height ≤ r → Rows from old r now → numbers_of z.width z.height now ≡ cost_grid how from z.width z.height (picture z b)
    unfolding cost_grid
    costed_end r now e so = rows_put_end (costs_row how from z b) z.width z.height (row_long from) old long r now e so

  -- The front of a space into which a row's energies were put is that row,
  pub energies_front : (plane : ℕ) → FillAsked z (length b) plane → (r : ℕ) (out out' : List ℕ) (v : Result (Unit {0}) Refusal) → EnergiesGiven b z how r out v out'
      → r < z.height → z.width ≤ length out → take z.width out' ≡ costs_row how Up z b r
  energies_front plane asked r out out' v g l room =
      ap (take z.width) (energies-served b z how r out out' v g (rw asked.long (sized-served z asked.sides)) l room)
      ∙ take_at (costs_row how Up z b r) (drop z.width out) z.width (length-table (fresh_costs how Up z z.width b r) z.width)

  -- and so of its three costs.
  pub record StepsFront (r : ℕ) (left' up' right' : List ℕ) : Type 0 where
    pub left : take z.width left' ≡ costs_row how Left z b r
    pub up : take z.width up' ≡ costs_row how Up z b r
    pub right : take z.width right' ≡ costs_row how Right z b r

  pub steps_front : (plane : ℕ) → FillAsked z (length b) plane → (r : ℕ) (left up right left' up' right' : List ℕ) (v : Result (Unit {0}) Refusal)
      → StepCostsGiven b z how r left up right v left' up' right' → r < z.height → z.width ≤ length left → z.width ≤ length up → z.width ≤ length right → StepsFront r left' up' right'
  steps_front plane asked r left up right left' up' right' v g l one two three = record {
    left = front Left left left' g.left_given;
    up = front Up up up' g.up_given;
    right = front Right right right' g.right_given;
  }
    where
      rest : refusal (4 when leb z.height r ∷ 8 when (ltb (length left) z.width || (ltb (length up) z.width || ltb (length right) z.width)) ∷ []) ≡ 0
      rest = simp (lt-leb _ _ l, le-ltb _ _ one, le-ltb _ _ two, le-ltb _ _ three)

      none : given v ≡ 0
      none =
          g.number
          ∙ served-first (size_rules z (length b)) (4 when leb z.height r ∷ 8 when (ltb (length left) z.width || (ltb (length up) z.width || ltb (length right) z.width)) ∷ []) refl
          (rw asked.long (sized-served z asked.sides)) ∙ rest

      front : (from : Step) (out out' : List ℕ) → out' ≡ served (given v) (costs_row how from z b r ++ drop z.width out) out → take z.width out' ≡ costs_row how from z b r
      front from out out' e =
          ap (take z.width) (e ∙ ap (λ n. served n (costs_row how from z b r ++ drop z.width out) out) none)
          ∙ take_at (costs_row how from z b r) (drop z.width out) z.width (length-table (fresh_costs how from z z.width b r) z.width)
