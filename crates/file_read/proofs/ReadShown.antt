-- What reading gives of an accepted file, shown row by row at a width that it offers, is what showing the file gives.
use mathlib.Core.Path.{◌≡◌, ap, ap₂, sym, ◌∙◌}
use mathlib.Core.Bool.{true, false}
use mathlib.Core.Option.{some}
use mathlib.Core.List.{List, []}
use Prim.Native.Nat.{ℕ, ◌*◌, ◌<◌}
use lib.ListN.{get_or}
use Rattle.grids.specs.Each.{Grid}
use Rattle.grids.specs.Rows.{flat, row_at}
use Rattle.pictures.specs.Refusals.{refusal}
use Rattle.grids.proofs.Rows.{flat_at}
use Rattle.pictures.specs.Pictures.{pixel_bytes, row_bytes, row_out, bytes, OfSize}
use Rattle.pictures.proofs.Buffers.{bytes-row}
use Rattle.energy.specs.Methods.{wrap_of}
use Rattle.text_theory.specs.Files.{Parts, parse}
use Rattle.map_show.specs.Showing.{row_shown}
use Rattle.file_theory.specs.Rules.{part_rules, form_rules}
use Rattle.file_theory.specs.Shows.{Accepted, offers_in, offers, head_in, shows, drawn_bytes}
use Rattle.file_theory.proofs.Accepting.{accepted_shaped, accepted-judged}
use Rattle.file_read.specs.Inner.Checking.{judged_in}
use Rattle.file_read.specs.Inner.Opening.{Open}
use Rattle.file_read.proofs.Parsed.{Parsed, opened}
use Rattle.file_read.proofs.Drawing.{drawn-row}

module _ (f : List ℕ) (p : Parts) (a : Accepted f) (e : parse f ≡ some p) where
  open_parts : Open f p.head
  open_parts = record { sound = ap (λ q. refusal (form_rules part_rules q)) e ∙ accepted_shaped f p e a; head_is = ap head_in e }

  judged-parts : refusal (judged_in (parse f)) ≡ 0
  judged-parts = ap (λ q. refusal (judged_in q)) e ∙ accepted-judged f p e a

  pub read-shown : (v : ℕ) → offers f v ≡ true → (r : ℕ) → r < p.head.size.height
      → row_shown p.head.size.kind (wrap_of p.head.method) (row_out p.head.size.kind (get_or p.rows r [])) (get_or p.maps r []) v ≡ row_at (v * pixel_bytes p.head.size.kind) r (drawn_bytes (shows f v))
  unfolding offers
  read-shown v o r l =
      rw e at (drawn-row (opened f p.head open_parts) v judged-parts (sym (ap (λ q. offers_in q v) e) ∙ o) r l)

  known : Parsed f p.head
  known = opened f p.head open_parts

  -- The same of the buffers that reading fills: row r of the picture's bytes and row r of the map's numbers.
  pub buffers_shown : (v : ℕ) → offers f v ≡ true → (r : ℕ) → r < p.head.size.height
      → let z = p.head.size in
      row_shown z.kind (wrap_of p.head.method) (row_at (row_bytes z) r (bytes z.kind p.rows)) (row_at z.width r (flat p.maps)) v ≡ row_at (v * pixel_bytes z.kind) r (drawn_bytes (shows f v))
  buffers_shown v o r l = ap₂ (λ x y. row_shown p.head.size.kind (wrap_of p.head.method) x y v) row_is (flat_at maps r l) ∙ read-shown v o r l
    where
      maps : Grid p.head.size.width p.head.size.height p.maps
      maps = rw e at known.maps_grid

      rows : OfSize p.head.size p.rows
      rows = rw e at known.of_size

      row_is : row_at (row_bytes p.head.size) r (bytes p.head.size.kind p.rows) ≡ row_out p.head.size.kind (get_or p.rows r [])
      row_is = bytes-row p.head.size.kind rows r l

  -- And of the row that hosts are shown, where no last column is joined to the first: no method joins them.
  pub host_rows_shown : (v : ℕ) → offers f v ≡ true → (r : ℕ) → r < p.head.size.height
      → let z = p.head.size in
      row_shown z.kind false (row_at (row_bytes z) r (bytes z.kind p.rows)) (row_at z.width r (flat p.maps)) v ≡ row_at (v * pixel_bytes z.kind) r (drawn_bytes (shows f v))
  unfolding wrap_of
  host_rows_shown v o r l = buffers_shown v o r l
