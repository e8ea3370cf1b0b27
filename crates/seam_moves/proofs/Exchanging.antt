-- Laws of rows and columns exchanged, in the terms of the loops over cells of bytes.
use mathlib.Core.Path.{◌≡◌, refl, sym, ap, ap₂, ◌∙◌}
use mathlib.Core.List.{List, [], ◌∷◌, ◌++◌, append-nil, map}
use Prim.Native.Nat.{ℕ, ◌+◌, ◌-◌, ◌*◌, ◌≤◌, ◌<◌}
use native.Mathlib.Nat.{mul_left_comm, mul-le-mul, add-sub_cancel_left}
use native.Mathlib.Omega.{arith}
use borrow.Author.Tests.{ltb-false}
use borrow.Rule.Slice.PartMut.{mid_of, put_mid, mid_len}
use lib.Dec.{ltb}
use lib.ListN.{length, get_or, take, drop, drop_of_length-le}
use lib.Seq.{drop-drop}
use Rattle.grids.specs.Each.{Each, Grid}
use Rattle.grids.specs.Table.{table}
use Rattle.grids.specs.Rows.{flat, row_at, cells, flat_cells}
use Rattle.grids.specs.Exchange.{exchange}
use Rattle.grids.proofs.Shapes.{grid_of, each-length, each_at}
use Rattle.grids.proofs.Tables.{length-table, table_at, table_same, table-all, each-table}
use Rattle.grids.proofs.Rows.{length-row_at, length-flat, part_end}
use Rattle.grids.proofs.Cells.{cells-each, cell_at}
use Rattle.grids.proofs.Exchange.{exchange-each, exchange-grid, exchange_at, grid-same}
use Rattle.grids.proofs.Filled.{map-table, Filled, filled-part}
use Rattle.pictures.specs.Limits.{most_row, most_picture}
use Rattle.pictures.specs.declared.sizes.Size.{Size}
use Rattle.pictures.specs.Refusals.{◌when◌, refusal}
use Rattle.pictures.specs.Pictures.{pixel_bytes, picture_bytes, size_rules, picture, bytes}
use Rattle.pictures.proofs.Rules.{served-both, passed}
use Rattle.pictures.proofs.Limits.{Sized, sized_is}
use Rattle.pictures.proofs.Samples.{AreBytes}
use Rattle.pictures.proofs.Buffers.{exchange-cells, exchanged-column}
use Rattle.seam_bounds.specs.Moves.{exchange_rules}
use Rattle.seam_moves.specs.Between.{part_at}
use Rattle.seam_moves.specs.Moving.{column_bytes}
use Rattle.seam_moves.specs.Inner.{column_cells, ColumnNeeded, ExchangeNeeded, ColumnCellsNeeded, CellsNeeded}
use Rattle.seam_moves.proofs.Places.{part_front}

-- The exchanged grid as the table of its rows.
exchange-rows : {A : Type 0} {w n : ℕ} {p : List (List (List A))} → Grid w n p → exchange w p ≡ table (λ c. table (λ r. get_or (get_or p r []) c []) n) w
exchange-rows {A} {w} {n} {p} g = grid-same [] (exchange-grid g) columns at
  where
    column : ℕ → List (List A)
    column c = table (λ r. get_or (get_or p r []) c []) n

    columns : Grid n w (table column w)
    columns = each-table column w (λ c l. length-table (λ r. get_or (get_or p r []) c []) n)

    at : (c r : ℕ) → c < w → r < n → get_or (get_or (exchange w p) c []) r [] ≡ get_or (get_or (table column w) c []) r []
    at c r l m =
        exchange_at g r c []
        ∙ sym (ap (λ x. get_or x r []) (table_at column w c [] l) ∙ table_at (λ r. get_or (get_or p r []) c []) n r [] m)

-- The exchanged cells are cells, width and height exchanged; their rows are the columns.
pub exchanged_each : (n w h : ℕ) (b : List ℕ) → length b ≡ h * (w * n) → Each (Grid n h) w (exchange w (cells n w h b))
exchanged_each n w h b e = exchange-each (cells-each n w h b e)

exchanged_columns : (n w h : ℕ) (b : List ℕ) → length b ≡ h * (w * n) → flat_cells (exchange w (cells n w h b)) ≡ flat (table (column_cells n w h b) w)
unfolding flat_cells
exchanged_columns n w h b e =
    let q = exchange w (cells n w h b) in
    ap (λ x. flat (map flat x)) (sym (table-all q []) ∙ ap (table (λ c. get_or q c [])) (each-length (exchanged_each n w h b e)))
    ∙ ap flat (map-table flat (λ c. get_or q c []) w)

length-column : (n w h : ℕ) (b : List ℕ) → length b ≡ h * (w * n) → (c : ℕ) → c < w → length (column_cells n w h b c) ≡ h * n
length-column n w h b e c l = length-flat (each_at c [] l (exchanged_each n w h b e))

-- The cell in column c and row r.
abbrev pub cell : ℕ → ℕ → List ℕ → ℕ → ℕ → List ℕ
cell n w b c r = row_at n c (row_at (w * n) r b)

-- A column is its cells from the top.
column_is : (n w h : ℕ) (b : List ℕ) → length b ≡ h * (w * n) → (c : ℕ) → c < w → column_cells n w h b c ≡ flat (table (cell n w b c) h)
column_is n w h b e c l =
    let p = cells n w h b in
    ap (λ q. flat (get_or q c [])) (exchange-rows (grid_of (cells-each n w h b e)))
    ∙ ap flat (table_at (λ c. table (λ r. get_or (get_or p r []) c []) h) w c [] l
    ∙ table_same (λ r. get_or (get_or p r []) c []) (cell n w b c) h (λ r m. cell_at n w h b e r c m))

-- What an exchange and a copy of a column need, where no rule applies.
pub exchange_needed : (b : List ℕ) (z : Size) (to : List ℕ) → refusal (exchange_rules z (length b) (length to)) ≡ 0 → ExchangeNeeded b z to
exchange_needed b z to e =
    let short = ltb (length to) (picture_bytes z) in
    let both = served-both (size_rules z (length b)) (8 when short ∷ []) refl e in
    record { sized = both.0; room = ltb-false (length to) (picture_bytes z) (passed short 7 0 both.1).0 }

-- The loop over a column's cells.
module _ (n w h : ℕ) (b : List ℕ) (c : ℕ) (space : List ℕ) (needed : ColumnCellsNeeded n w h b c space) where
  module _ (r : ℕ) (inside : r < h) where
    row-long : length (row_at (w * n) r b) ≡ w * n
    row-long = length-row_at (w * n) h b r (omega (arith, needed.long)) inside

    length-cell : length (cell n w b c r) ≡ n
    length-cell = length-row_at n w (row_at (w * n) r b) c (omega (arith, row-long)) needed.inside

    -- Where a cell is read and where it goes.
    pub record CellSure : Type 0 where
      pub from_end : r * (w * n) + c * n + n ≤ length b
      pub short : length b ≤ most_picture
      pub to_end : r * n + n ≤ length space

    pub cell-sure : CellSure
    cell-sure = record {
      from_end = omega (arith, part_end c w n needed.inside, part_end r h (w * n) inside, needed.long);
      short = needed.short;
      to_end = omega (arith, part_end r h n inside, needed.room);
    }

    cell-is : part_at (r * (w * n) + c * n) n b ≡ cell n w b c r
    cell-is = ap (take n) (sym (drop-drop (c * n) (r * (w * n)) b)) ∙ sym (part_front (c * n) n (w * n) (drop (r * (w * n)) b) (part_end c w n needed.inside))

  -- One turn: `out` is the space as it is then, `new` the part that comes back.
  module _ (r : ℕ) (out : List ℕ) (inside : r < h) (long : length out ≡ length space) where
    gap : length (mid_of (r * n) (r * n + n - r * n) out) ≡ n
    gap = mid_len (r * n) (r * n + n) out (omega (arith, (cell-sure r inside).to_end)) ∙ add-sub_cancel_left (r * n) n

    pub cell-turn : (new : List ℕ) → Filled (cell n w b c) n space r out
        → new ≡ take (r * (w * n) + c * n + n - (r * (w * n) + c * n)) (drop (r * (w * n) + c * n) b)
        → Filled (cell n w b c) n space (r + 1) (put_mid (r * n) (r * n + n - r * n) out new)
    cell-turn new so_far New-is =
        let i = r * (w * n) + c * n in
        let k = r * n + n - r * n in
        let one : new ≡ cell n w b c r = New-is ∙ ap (λ m. take m (drop i b)) (add-sub_cancel_left i n) ∙ cell-is r inside in
        let none : drop n (mid_of (r * n) k out) ≡ [] = drop_of_length-le (mid_of (r * n) k out) {i = n} (omega (arith, gap)) in
        filled-part (cell n w b c) h n length-cell space r out inside so_far k new (omega (arith, gap))
        (one ∙ rw (none, append-nil))

  pub column_end : (out : List ℕ) → Filled (cell n w b c) n space h out → out ≡ column_cells n w h b c ++ drop (h * n) space
  column_end out so_far = so_far ∙ ap (◌++ drop (h * n) space) (sym (column_is n w h b needed.long c needed.inside))

-- The loop over the columns, each of which becomes a row.
module _ (n w h : ℕ) (b space : List ℕ) (needed : CellsNeeded n w h b space) where
  -- As many bytes as before.
  whole : w * (h * n) ≡ h * (w * n)
  whole = mul_left_comm w h n

  pub record ColumnSure (c : ℕ) : Type 0 where
    pub room : c * (h * n) + h * n ≤ length space
    pub small : c * (h * n) + h * n ≤ most_picture

  pub column-sure : (c : ℕ) → c < w → ColumnSure c
  column-sure c l =
      let e = part_end c w (h * n) l in
      record { room = omega (arith, whole, needed.room); small = omega (arith, whole, needed.long, needed.short) }

  -- One turn. `now` is the space as it is then, `new` the part that comes back.
  module _ (c : ℕ) (now : List ℕ) (inside : c < w) (long : length now ≡ length space) where
    abbrev s : ℕ
    s = h * n

    part : length (mid_of (c * s) (c * s + s - c * s) now) ≡ s
    part = mid_len (c * s) (c * s + s) now (omega (arith, (column-sure c inside).room)) ∙ add-sub_cancel_left (c * s) s

    pub columns-turn : (new : List ℕ) → Filled (column_cells n w h b) (h * n) space c now
        → new ≡ column_cells n w h b c ++ drop (h * n) (mid_of (c * (h * n)) (c * (h * n) + h * n - c * (h * n)) now)
        → Filled (column_cells n w h b) (h * n) space (c + 1) (put_mid (c * (h * n)) (c * (h * n) + h * n - c * (h * n)) now new)
    columns-turn new so_far New-is =
        filled-part (column_cells n w h b) w s (length-column n w h b needed.long) space c now inside so_far (c * s + s - c * s) new (omega (arith, part)) New-is

  pub columns_end : (now : List ℕ) → Filled (column_cells n w h b) (h * n) space w now → now ≡ flat_cells (exchange w (cells n w h b)) ++ drop (h * (w * n)) space
  columns_end now so_far = so_far ∙ ap₂ ◌++◌ (sym (exchanged_columns n w h b needed.long)) (ap (λ m. drop m space) whole)

-- The cells that the pixels of a picture are.
module _ (z : Size) (b : List ℕ) (n : ℕ) (is : n ≡ pixel_bytes z.kind) where
  module _ (sized : Sized z (length b)) where
    long : length b ≡ z.height * (z.width * n)
    long = rw is sized.length_is

    short : length b ≤ most_picture
    short = omega (arith, sized.length_is, sized.picture_most)

    row : z.width * n ≤ most_row
    row = rw is sized.row_most

    column : z.height * n ≤ most_row
    column = rw is (mul-le-mul sized.height_small sized.pixel_most)

  pub cells_needed : (to : List ℕ) → ExchangeNeeded b z to → CellsNeeded n z.width z.height b to
  cells_needed to needed =
      let q = sized_is z (length b) needed.sized in
      record { long = long q; short = short q; row = row q; column = column q; room = rw is needed.room }

  pub column_needed : (c : ℕ) (out : List ℕ) → ColumnNeeded b z c out → ColumnCellsNeeded n z.width z.height b c out
  column_needed c out needed =
      let q = sized_is z (length b) needed.sized in
      record { long = long q; short = short q; row = row q; column = column q; inside = needed.inside; room = rw is needed.room }

  -- Moved, they are the pixels moved.
  module _ (sized : refusal (size_rules z (length b)) ≡ 0) (small : AreBytes b) (space new : List ℕ) where
    long_is : length b ≡ picture_bytes z
    long_is = (sized_is z (length b) sized).length_is

    pub pixels_exchanged : new ≡ flat_cells (exchange z.width (cells n z.width z.height b)) ++ drop (z.height * (z.width * n)) space
        → new ≡ bytes z.kind (exchange z.width (picture z b)) ++ drop (picture_bytes z) space
    pixels_exchanged new_is =
        new_is
        ∙ ap (λ n. flat_cells (exchange z.width (cells n z.width z.height b)) ++ drop (z.height * (z.width * n)) space) is
        ∙ ap (◌++ drop (picture_bytes z) space) (sym (exchange-cells z b long_is small))

    pub pixels_put : (c : ℕ) → c < z.width → new ≡ column_cells n z.width z.height b c ++ drop (z.height * n) space
        → new ≡ column_bytes z b c ++ drop (z.height * pixel_bytes z.kind) space
    pixels_put c l new_is =
        new_is
        ∙ ap (λ n. column_cells n z.width z.height b c ++ drop (z.height * n) space) is
        ∙ ap (◌++ drop (z.height * pixel_bytes z.kind) space) (sym (exchanged-column z b long_is small c l))
