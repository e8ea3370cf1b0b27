-- A row of an accepted file, shown: its part of the picture and its row of the map give its part of what is shown.
use mathlib.Core.Path.{◌≡◌, refl, sym, ap, ◌∙◌}
use mathlib.Core.Bool.{Bool}
use mathlib.Core.List.{List, [], ◌++◌, append-nil}
use Prim.Native.Nat.{ℕ, ◌+◌, ◌-◌, ◌*◌, ◌≤◌, ◌<◌}
use native.Mathlib.Omega.{arith}
use lib.ListN.{length, get_or, take, drop, length-drop, take-append-drop, drop_of_length-le}
use lib.Seq.{length-take-le, drop-append-le, take-append-le}
use borrow.Rule.Slice.PartMut.{mid_of}
use Rattle.grids.specs.Rows.{row_at}
use Rattle.grids.proofs.Rows.{part_end, length-row_at}
use Rattle.grids.proofs.Shapes.{each_at}
use Rattle.std.specs.Prelude.{Result, Ok, Err, IsOk}
use Rattle.pictures.specs.Refusals.{given}
use Rattle.pictures.proofs.Rules.{number-some}
use Rattle.pictures.specs.declared.refusals.Refusal.{Refusal}
use Rattle.pictures.proofs.Samples.{length-row_out}
use Rattle.pictures.specs.Pictures.{row_out, pixel_bytes, row_bytes, picture_bytes}
use Rattle.energy.specs.Methods.{wrap_of}
use Rattle.text_theory.specs.declared.Head.{Head}
use Rattle.text_theory.specs.Files.{parse}
use Rattle.map_show.specs.Showing.{row_shown, RowAtGiven}
use Rattle.map_show.proofs.Judging.{nothing-refused, row-served}
use Rattle.file_theory.specs.Shows.{rows_in, maps_in, shows, drawn_bytes}
use Rattle.file_read.specs.Inner.Opening.{Open}
use Rattle.file_read.specs.Inner.Lines.{MapRead}
use Rattle.file_read.specs.Inner.Widths.{Showing}
use Rattle.file_read.proofs.Parsed.{Parsed, opened}
use Rattle.file_read.proofs.Places.{row-of-bytes, map-taken}
use Rattle.file_read.proofs.Drawing.{drawn-long, drawn-row}

-- An answer whose number is 0.
is_served : (answer : Result (Unit {0}) Refusal) → given answer ≡ 0 → IsOk answer
is_served (Ok x) e = refl
is_served (Err why) e = absurd (omega (arith, number-some why, e))

-- A row of the front of a list is a row of the list.
front-row : (s r n : ℕ) (b : List ℕ) → r * s + s ≤ n → n ≤ length b → row_at s r b ≡ row_at s r (take n b)
front-row s r n b l m =
    let f = length-take-le n b m in
    ap (row_at s r) (sym (take-append-drop n b)) ∙ ap (take s) (drop-append-le (r * s) (take n b) (drop n b) (omega arith))
    ∙ take-append-le s (drop (r * s) (take n b)) (drop n b) (omega (arith, length-drop (r * s) (take n b)))

module _ {file : List ℕ} {h : Head} {v : ℕ} {space : List ℕ} (o : Open file h) (s : Showing file h v space) where
  known : Parsed file h
  known = opened file h o

  pub whole_long : length (drawn_bytes (shows file v)) ≡ h.size.height * (v * pixel_bytes h.size.kind)
  whole_long = drawn-long known v s.accepted s.offers

  module _ {r : ℕ} (inside : r < h.size.height) where
    samples_are : (n : ℕ) → n ≡ pixel_bytes h.size.kind
        → mid_of (r * (h.size.width * n)) (r * (h.size.width * n) + h.size.width * n - r * (h.size.width * n)) space ≡ row_out h.size.kind (get_or (rows_in (parse file)) r [])
    samples_are n is =
        let e : r * (h.size.width * n) + h.size.width * n - r * (h.size.width * n) ≡ h.size.width * n = omega arith in
        rw e
        (rw is
        (front-row (row_bytes h.size) r (picture_bytes h.size) space (part_end r h.size.height (row_bytes h.size) inside) s.inside
        ∙ ap (row_at (row_bytes h.size) r) s.picture_is ∙ row-of-bytes known r inside))

    whole : length (row_out h.size.kind (get_or (rows_in (parse file)) r [])) ≡ length (get_or (maps_in (parse file)) r []) * pixel_bytes h.size.kind
    whole = length-row_out h.size.kind (each_at r [] inside known.of_size) ∙ ap (◌* pixel_bytes h.size.kind) (sym (each_at r [] inside known.maps_grid))

    shown : row_shown h.size.kind (wrap_of h.method) (row_out h.size.kind (get_or (rows_in (parse file)) r [])) (get_or (maps_in (parse file)) r []) v ≡ row_at (v * pixel_bytes h.size.kind) r (drawn_bytes (shows file v))
    shown = drawn-row known v s.accepted s.offers r inside

    -- Its map line was read before whatever is after it, and the row is shown.
    module _ {at : ℕ} {got : List ℕ} (m : MapRead file r at got) (after : List ℕ) {n : ℕ} (is : n ≡ pixel_bytes h.size.kind) {wrap : Bool} (joined : wrap ≡ wrap_of h.method) {out : List ℕ} (long : length out ≡ v * pixel_bytes h.size.kind)
        {answer : Result (Unit {0}) Refusal} {new : List ℕ}
        (g : RowAtGiven h.size.kind wrap (mid_of (r * (h.size.width * n)) (r * (h.size.width * n) + h.size.width * n - r * (h.size.width * n)) space) (take h.size.width (got ++ after)) v out answer new) where
      given_row : RowAtGiven h.size.kind (wrap_of h.method) (row_out h.size.kind (get_or (rows_in (parse file)) r [])) (get_or (maps_in (parse file)) r []) v out answer new
      given_row = rw (samples_are n is, map-taken o inside m after, joined) at g

      as_long : length (row_shown h.size.kind (wrap_of h.method) (row_out h.size.kind (get_or (rows_in (parse file)) r [])) (get_or (maps_in (parse file)) r []) v) ≡ length out
      as_long = ap length shown ∙ length-row_at (v * pixel_bytes h.size.kind) h.size.height (drawn_bytes (shows file v)) r (omega (arith, whole_long)) inside ∙ sym long

      -- Nothing refuses it.
      pub row_is_ok : IsOk answer
      row_is_ok = is_served answer (given_row.number ∙ sym (nothing-refused h.size.kind (wrap_of h.method) _ _ v whole out (omega (arith, as_long))))

      pub row_drawn : new ≡ row_at (v * pixel_bytes h.size.kind) r (drawn_bytes (shows file v))
      row_drawn =
          let x = row_shown h.size.kind (wrap_of h.method) (row_out h.size.kind (get_or (rows_in (parse file)) r [])) (get_or (maps_in (parse file)) r []) v in
          row-served h.size.kind (wrap_of h.method) _ _ v out whole (omega (arith, as_long)) given_row ∙ ap (x ++◌) (drop_of_length-le out {i = length x} (omega (arith, as_long))) ∙ append-nil x ∙ shown
