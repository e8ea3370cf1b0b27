-- The places of a file's lines: at each of them stands the next line, and after it the others.
use mathlib.Core.Path.{◌≡◌, sym, ap, ◌∙◌}
use mathlib.Core.Option.{some}
use mathlib.Core.List.{List, [], ◌∷◌, ◌++◌}
use Prim.Native.Nat.{ℕ, zero, suc, ◌+◌, ◌*◌, ◌≤◌, ◌<◌}
use native.Mathlib.Nat.{le_of_suc-le-suc}
use native.Mathlib.Numerals.{add-one}
use native.Mathlib.Omega.{arith}
use lib.ListN.{length, get_or, take, drop, drop_of_length-le}
use lib.Seq.{drop-cons, take_at}
use Rattle.grids.specs.Rows.{flat, row_at}
use Rattle.grids.proofs.Rows.{flat_at, length-flat}
use Rattle.grids.proofs.Shapes.{each-length, each_at, get_or-map}
use Rattle.pictures.specs.Pictures.{row_bytes, picture_bytes, row_out, bytes, pixels}
use Rattle.pictures.proofs.Samples.{row-out-plain}
use Rattle.pictures.proofs.Buffers.{row_plain, bytes-row, length-bytes}
use Rattle.pictures.specs.Numbers.{largest_number, pairs}
use Rattle.map_rules.specs.Spaces.{map_bytes}
use Rattle.map_rules.proofs.Rooms.{map-rows}
use Rattle.pictures.proofs.TwoBytes.{length_pairs, pairs-flat, grid-pairs}
use Rattle.text_theory.specs.declared.Head.{Head}
use Rattle.text_theory.specs.Files.{parse, each, closed, All, Pixel}
use Rattle.text_read.specs.Lines.{row_line, map_line, record_line}
use Rattle.text_read.proofs.Callers.{row_line_lem, map_line_lem, rows_next, maps-next}
use Rattle.file_theory.specs.Shows.{rows_in, bytes_in, maps_in}
use Rattle.file_read.specs.Inner.Opening.{Open, maps_from, rows_from}
use Rattle.file_read.specs.Inner.Lines.{MapRead}
use Rattle.file_read.proofs.Parsed.{Parsed, opened}

pub all_at : {A : Type 0} (P : A → Type 0) (xs : List A) (r : ℕ) (d : A) → All P xs → r < length xs → P (get_or xs r d)
all_at P [] r d a h = absurd (omega arith)
all_at P (x ∷ xs) zero d a h = a.0
all_at P (x ∷ xs) (suc r) d a h = all_at P xs r d a.1 (le_of_suc-le-suc h)

module _ {file : List ℕ} {h : Head} (k : Parsed file h) where
  -- The bytes of its picture are of its kind.
  pub bytes-are : bytes_in (parse file) ≡ bytes h.size.kind (rows_in (parse file))
  bytes-are = ap bytes_in k.parsed

  -- After the last row line stand the map lines.
  pub rows_end : (at : ℕ) → drop at file ≡ rows_from h.size.kind (parse file) h.size.height → drop at file ≡ maps_from (parse file) 0
  unfolding each
  rows_end at p = p ∙ rw (drop_of_length-le (rows_in (parse file)) {i = h.size.height} (omega (arith, each-length k.of_size)))

  -- The line at a place, and how many values it has.
  module _ (r : ℕ) (inside : r < h.size.height) where
    pub row_there : (at : ℕ) → drop at file ≡ rows_from h.size.kind (parse file) r
        → row_line h.size.kind (drop at file) ≡ some (flat (get_or (rows_in (parse file)) r []), rows_from h.size.kind (parse file) (r + 1))
    row_there at p =
        let rows = rows_in (parse file) in
        let there : r < length (rows_in (parse file)) = omega (arith, each-length k.of_size) in
        ap (row_line h.size.kind) (p ∙ rw (drop-cons rows r [] there, add-one r) (rows_next h.size.kind (get_or rows r []) (drop (suc r) rows) (maps_from (parse file) 0)))
        ∙ row_line_lem h.size.kind (get_or rows r []) (rows_from h.size.kind (parse file) (r + 1)) (all_at (All (Pixel h.size.kind)) rows r [] k.within.rows there)

    pub map_there : (at : ℕ) → drop at file ≡ maps_from (parse file) r → map_line (drop at file) ≡ some (get_or (maps_in (parse file)) r [], maps_from (parse file) (r + 1))
    map_there at p =
        let maps = maps_in (parse file) in
        let there : r < length (maps_in (parse file)) = omega (arith, each-length k.maps_grid) in
        ap map_line (p ∙ rw (drop-cons maps r [] there, add-one r) (maps-next (get_or maps r []) (drop (suc r) maps) closed))
        ∙ map_line_lem (get_or maps r []) (maps_from (parse file) (r + 1)) (all_at (All (λ (v : ℕ). v ≤ largest_number)) maps r [] k.within.maps there)

    pub record_there : (at : ℕ) → drop at file ≡ maps_from (parse file) r → record_line (drop at file) ≡ some (pairs (get_or (maps_in (parse file)) r []), maps_from (parse file) (r + 1))
    unfolding record_line
    record_there at p = rw (map_there at p)

    pub row-long : length (flat (get_or (rows_in (parse file)) r [])) ≡ row_bytes h.size
    row-long = length-flat (each_at r [] inside k.of_size) ∙ sym (row_plain h.size)

    pub map-row-long : length (get_or (maps_in (parse file)) r []) ≡ h.size.width
    map-row-long = each_at r [] inside k.maps_grid

    pub record-long : length (pairs (get_or (maps_in (parse file)) r [])) ≡ 2 * h.size.width
    record-long = length_pairs (get_or (maps_in (parse file)) r []) ∙ ap (2 *◌) map-row-long

    -- Row r of the picture's bytes, which are its samples, of the map, and of the map's bytes.
    pub row-of-bytes : row_at (row_bytes h.size) r (bytes_in (parse file)) ≡ row_out h.size.kind (get_or (rows_in (parse file)) r [])
    row-of-bytes = ap (row_at (row_bytes h.size) r) bytes-are ∙ bytes-row h.size.kind k.of_size r inside

    pub row-of-samples : row_at (row_bytes h.size) r (bytes_in (parse file)) ≡ flat (get_or (rows_in (parse file)) r [])
    row-of-samples = row-of-bytes ∙ row-out-plain h.size.kind (get_or (rows_in (parse file)) r [])

    pub row-of-map : row_at h.size.width r (flat (maps_in (parse file))) ≡ get_or (maps_in (parse file)) r []
    row-of-map = flat_at k.maps_grid r inside

    pub row-of-pairs : row_at (2 * h.size.width) r (pairs (flat (maps_in (parse file)))) ≡ pairs (get_or (maps_in (parse file)) r [])
    row-of-pairs =
        ap (row_at (2 * h.size.width) r) (pairs-flat (maps_in (parse file)))
        ∙ flat_at (grid-pairs k.maps_grid) r inside ∙ get_or-map pairs (maps_in (parse file)) r [] [] (omega (arith, each-length k.maps_grid))

  -- How many values they have.
  pub bytes-long : length (bytes_in (parse file)) ≡ picture_bytes h.size
  bytes-long = ap length bytes-are ∙ length-bytes h.size (rows_in (parse file)) k.of_size

  pub map-long : length (flat (maps_in (parse file))) ≡ pixels h.size
  map-long = length-flat k.maps_grid

  pub pairs-rows : length (pairs (flat (maps_in (parse file)))) ≡ h.size.height * (2 * h.size.width)
  pairs-rows = ap length (pairs-flat (maps_in (parse file))) ∙ length-flat (grid-pairs k.maps_grid)

  pub pairs-long : length (pairs (flat (maps_in (parse file)))) ≡ map_bytes h.size
  pairs-long = pairs-rows ∙ map-rows h.size

-- A map line that was read stands at the front of as many places as the width says, whatever follows.
pub map-taken : {file : List ℕ} {h : Head} → Open file h → {r : ℕ} → r < h.size.height → {at : ℕ} {got : List ℕ} → MapRead file r at got
    → (after : List ℕ) → take h.size.width (got ++ after) ≡ get_or (maps_in (parse file)) r []
map-taken {file} {h} o {r} inside {got = got} m after =
    take_at got after h.size.width (ap length m.numbers ∙ each_at r [] inside (opened file h o).maps_grid) ∙ m.numbers
