-- Laws of cells in a flat list: their shape, and where a cell and a row of them stand.
use mathlib.Core.Path.{◌≡◌, ap, ◌∙◌}
use mathlib.Core.List.{List, []}
use Prim.Native.Nat.{ℕ, ◌*◌, ◌<◌}
use native.Mathlib.Nat.{le_of_eq}
use native.Mathlib.Omega.{arith}
use lib.ListN.{length, get_or}
use lib.Seq.{take_all}
use Rattle.grids.specs.Each.{Each, Grid}
use Rattle.grids.specs.Rows.{rows_of, flat, row_at, cells}
use Rattle.grids.proofs.Shapes.{each_map, get_or-map}
use Rattle.grids.proofs.Rows.{grid-rows_of, flat-rows_of, rows_of_at, rows_of-row_at, length-row_at, length-rows_of}

module _ {A : Type 0} where
  -- The rows, each cut into cells.
  pub cells-each : (n w h : ℕ) (b : List A) → length b ≡ h * (w * n) → Each (Grid n w) h (cells n w h b)
  unfolding cells
  cells-each n w h b e = each_map (rows_of n w) (λ x l. grid-rows_of n w x (omega arith)) (grid-rows_of (w * n) h b (omega arith))

  -- Cell c of row r is the c-th group of elements of the r-th row of the list; past the last column both have none.
  pub cell_at : (n w h : ℕ) (b : List A) → length b ≡ h * (w * n) → (r c : ℕ) → r < h → get_or (get_or (cells n w h b) r []) c [] ≡ row_at n c (row_at (w * n) r b)
  unfolding cells
  cell_at n w h b e r c l =
      let rows = rows_of (w * n) h b in
      ap (λ x. get_or x c []) (get_or-map (rows_of n w) rows r [] [] (rw (length-rows_of) l) ∙ ap (rows_of n w) (rows_of_at (w * n) h b r l))
      ∙ rows_of-row_at n w (row_at (w * n) r b) c (le_of_eq (length-row_at (w * n) h b r (omega arith) l))

  -- Row r, and what it holds.
  pub flat-row : (n w h : ℕ) (b : List A) → length b ≡ h * (w * n) → (r : ℕ) → r < h → flat (get_or (cells n w h b) r []) ≡ row_at (w * n) r b
  unfolding cells
  flat-row n w h b e r l =
      let rows = rows_of (w * n) h b in
      ap flat (get_or-map (rows_of n w) rows r [] [] (rw (length-rows_of) l) ∙ ap (rows_of n w) (rows_of_at (w * n) h b r l))
      ∙ flat-rows_of n w (row_at (w * n) r b)
      ∙ take_all (w * n) (row_at (w * n) r b) (le_of_eq (length-row_at (w * n) h b r (omega arith) l))
