-- What an accepted file shows at an offered width, row by row.
use mathlib.Core.Path.{◌≡◌, sym, ap, ◌∙◌}
use mathlib.Core.Bool.{true}
use mathlib.Core.List.{List, []}
use Prim.Native.Nat.{ℕ, ◌*◌, ◌≤◌, ◌<◌}
use native.Mathlib.Omega.{arith}
use lib.ListN.{length, get_or, take, drop}
use lib.Seq.{length_front, length-take-le, take_at}
use Rattle.grids.specs.Each.{Each}
use Rattle.grids.specs.Rows.{row_at}
use Rattle.grids.proofs.Shapes.{each_at, each_any, grid_of}
use Rattle.pictures.specs.Refusals.{refusal}
use Rattle.pictures.specs.Pictures.{Picture, pixel_bytes, picture_bytes, row_out, bytes, OfSize}
use Rattle.pictures.proofs.Samples.{row-in-out}
use Rattle.pictures.proofs.Buffers.{bytes-row, length-bytes}
use Rattle.energy.specs.Methods.{wrap_of}
use Rattle.map_theory.specs.Widths.{offered, shown}
use Rattle.map_theory.specs.Judged.{Numbering}
use Rattle.map_theory.proofs.Judged.{judged_is}
use Rattle.map_theory.proofs.Shown.{shown-grid, shown_at}
use Rattle.text_theory.specs.declared.Head.{Head}
use Rattle.text_theory.specs.Files.{parse, Pixel}
use Rattle.map_show.specs.Showing.{row_shown}
use Rattle.file_theory.specs.Contents.{choose_of, near_of, mean_of}
use Rattle.file_theory.specs.Rules.{judged_rules}
use Rattle.file_theory.specs.Shows.{rows_in, bytes_in, maps_in, sized, shows_in, shows, drawn_bytes}
use Rattle.file_theory.proofs.Shapes.{all-each, each_all}
use Rattle.file_theory.proofs.Heads.{mean-pixel}
use Rattle.file_theory.proofs.Pixels.{all_shown}
use Rattle.file_read.specs.Inner.Checking.{judged_in}
use Rattle.file_read.specs.Inner.Opening.{Open}
use Rattle.file_read.specs.Inner.Lines.{PictureRead}
use Rattle.file_read.specs.Inner.Widths.{DrawNeeded, Showing}
use Rattle.file_read.proofs.Parsed.{Parsed, opened, parts_with}
use Rattle.file_read.proofs.Places.{bytes-long}
use Rattle.file_read.proofs.Offered.{Roomy, roomy, picture-fits, sound}

module _ {file : List ℕ} {h : Head} (k : Parsed file h) (v : ℕ) where
  -- The picture shown, and its bytes.
  abbrev picture : Picture
  picture = shown (mean_of h) (wrap_of h.method) h.size.width v (rows_in (parse file)) (maps_in (parse file))

  drawn_is : drawn_bytes (shows file v) ≡ bytes h.size.kind picture
  unfolding shows
  drawn_is = ap (λ q. drawn_bytes (shows_in q v)) k.parsed

  module _ (accepted : refusal (judged_in (parse file)) ≡ 0) (offers : offered h.size.width h.depth h.growth v ≡ true) where
    -- Each row of an accepted map is a numbering.
    numbered : Each (Numbering h.depth) h.size.height (maps_in (parse file))
    numbered =
        let e : refusal (judged_rules (parts_with h (parse file))) ≡ 0 = sym (ap (λ q. refusal (judged_in q)) k.parsed) ∙ accepted in
        ((judged_is (near_of h) (choose_of h) h.size.width h.size.height h.depth (rows_in (parse file)) (maps_in (parse file)) k.maps_grid).0 e).numbered

    -- So what is shown is a picture of width v.
    shown-size : OfSize (sized v h.size) picture
    shown-size =
        let g = shown-grid (mean_of h) (wrap_of h.method) h.size.width h.depth h.growth k.range v offers (grid_of k.pixels) k.maps_grid numbered in
        let a = all_shown (Pixel h.size.kind) (mean_of h) (mean-pixel h h.size.kind) (wrap_of h.method) h.size.width v (rows_in (parse file)) (maps_in (parse file)) (all-each (λ row e. all-each (λ px c. c) e) k.pixels) in
        each_all (λ row e c. each_all (λ px u d. d.count) (each_any v row e) c) g a

    pub drawn-long : length (drawn_bytes (shows file v)) ≡ h.size.height * (v * pixel_bytes h.size.kind)
    drawn-long = ap length drawn_is ∙ length-bytes (sized v h.size) picture shown-size

    -- Row r of it: the file's row and its row of the map, shown.
    pub drawn-row : (r : ℕ) → r < h.size.height
        → row_shown h.size.kind (wrap_of h.method) (row_out h.size.kind (get_or (rows_in (parse file)) r [])) (get_or (maps_in (parse file)) r []) v ≡ row_at (v * pixel_bytes h.size.kind) r (drawn_bytes (shows file v))
    unfolding row_shown
    drawn-row r l =
        let long : length (get_or (maps_in (parse file)) r []) ≡ h.size.width = each_at r [] l k.maps_grid in
        rw (long, row-in-out h.size.kind (each_at r [] l k.of_size), drawn_is)
        (sym (bytes-row h.size.kind shown-size r l ∙ ap (row_out h.size.kind) (shown_at (mean_of h) (wrap_of h.method) v (grid_of k.pixels) k.maps_grid r l)))

-- The picture stands at the front of the space when its row lines are read.
module _ (file : List ℕ) (h : Head) (o : Open file h) (v out : ℕ) (work : List ℕ) (d : DrawNeeded file h v out (length work)) where
  known : Parsed file h
  known = opened file h o

  fits : Roomy h v out (length work)
  fits = roomy h v out (length work) (sound known) d.room

  pub room : picture_bytes h.size ≤ length work
  room = picture-fits h.size (length work) fits.work_room

  -- What is shown fits.
  pub out_room : length (drawn_bytes (shows file v)) ≤ out
  out_room = omega (arith, drawn-long known v d.accepted fits.offers, fits.out_room)

  module _ {work' : List ℕ} {at : ℕ} (g : PictureRead file h work at work') where
    long : length (bytes_in (parse file)) ≡ picture_bytes h.size
    long = bytes-long known

    pub same_long : length work' ≡ length work
    same_long = ap length g.space_is ∙ length_front work (bytes_in (parse file)) (picture_bytes h.size) (long ∙ sym (length-take-le (picture_bytes h.size) work room))

    pub showing : Showing file h v work'
    showing = record {
      accepted = d.accepted;
      offers = fits.offers;
      picture_is = ap (take (picture_bytes h.size)) g.space_is ∙ take_at (bytes_in (parse file)) (drop (picture_bytes h.size) work) (picture_bytes h.size) long;
      inside = omega (arith, same_long, room);
    }
