-- What a file that is built offers and shows.
use mathlib.Core.Path.{◌≡◌, sym, ap, ◌∙◌}
use mathlib.Core.Bool.{true}
use mathlib.Core.Option.{some}
use mathlib.Core.List.{List, []}
use Prim.Native.Nat.{ℕ, ◌-◌, ◌≤◌, ◌<◌}
use lib.ListN.{get_or}
use Rattle.grids.specs.Each.{Each}
use Rattle.grids.proofs.Shapes.{each_any}
use Rattle.pictures.specs.Pictures.{Picture}
use Rattle.energy.specs.Methods.{wrap_of}
use Rattle.map_theory.specs.Widths.{offered, shown, LeftOut}
use Rattle.map_theory.proofs.Shown.{shown-original, shown-grid, shown-left-out}
use Rattle.text_theory.specs.Words.{rule_text}
use Rattle.text_theory.specs.Files.{parse, Pixel}
use Rattle.text_theory.proofs.Files.{parse-text}
use Rattle.file_theory.specs.Contents.{mean_of, parts_of, file_of}
use Rattle.file_theory.specs.Demands.{Built}
use Rattle.file_theory.specs.Shows.{offers, sized, shows, original, energy_word}
use Rattle.file_theory.proofs.Shapes.{all-each, each_all}
use Rattle.file_theory.proofs.Shaped.{built_rows, built_maps, built_numbered, built_within}
use Rattle.file_theory.proofs.Heads.{mean-pixel}
use Rattle.file_theory.proofs.Pixels.{all_shown}

-- What is read back from a file that is built.
module _ {f : List ℕ} (b : Built f) where
  pub built_parsed : parse f ≡ some (parts_of b.head b.rows)
  unfolding file_of
  built_parsed = ap parse b.is ∙ parse-text (parts_of b.head b.rows) (built_within b.head b.rows b.picture b.range)

  pub built_original : original f ≡ b.head.size.width
  unfolding original
  built_original = rw built_parsed

  pub built_word : energy_word f ≡ rule_text b.head.method.energy
  unfolding energy_word
  built_word = rw built_parsed

  pub built_offers : (v : ℕ) → offers f v ≡ offered b.head.size.width b.head.depth b.head.growth v
  unfolding offers
  built_offers v = rw built_parsed

  pub built_shows : (v : ℕ) → shows f v
      ≡ some (record { size = sized v b.head.size; rows = shown (mean_of b.head) (wrap_of b.head.method) b.head.size.width v b.rows (parts_of b.head b.rows).maps })
  unfolding shows
  built_shows v = rw built_parsed

  -- At the original width it is the picture.
  pub built_picture : shows f b.head.size.width ≡ some (record { size = b.head.size; rows = b.rows })
  built_picture =
      built_shows b.head.size.width
      ∙ ap (λ (p : Picture). some (record { size = b.head.size; rows = p }))
      (shown-original (mean_of b.head) (wrap_of b.head.method) (built_rows b.head b.rows b.picture b.range) (built_maps b.head b.rows b.picture b.range))

  -- At an offered width it is a picture of this width, of the same kind of pixels.
  pub built_pixels : (v : ℕ) → offers f v ≡ true
      → Each (Each (Pixel b.head.size.kind) v) b.head.size.height (shown (mean_of b.head) (wrap_of b.head.method) b.head.size.width v b.rows (parts_of b.head b.rows).maps)
  built_pixels v o =
      let k = b.head.size.kind in
      let q : List (List ℕ) = (parts_of b.head b.rows).maps in
      let g = shown-grid (mean_of b.head) (wrap_of b.head.method) b.head.size.width b.head.depth b.head.growth b.range v (sym (built_offers v) ∙ o)
      (built_rows b.head b.rows b.picture b.range) (built_maps b.head b.rows b.picture b.range) (built_numbered b.head b.rows b.picture b.range) in
      let a = all_shown (Pixel k) (mean_of b.head) (mean-pixel b.head k) (wrap_of b.head.method) b.head.size.width v b.rows q (all-each (λ row e. all-each (λ px c. c) e) b.picture.pixels) in
      each_all (λ row e c. each_all (λ px u d. d) (each_any v row e) c) g a

  -- And a row at one is the row at a greater one with pixels left out.
  pub built_left_out : (v u r : ℕ) → offers f v ≡ true → offers f u ≡ true → v ≤ u → r < b.head.size.height
      → LeftOut (u - v) (get_or (shown (mean_of b.head) (wrap_of b.head.method) b.head.size.width v b.rows (parts_of b.head b.rows).maps) r [])
      (get_or (shown (mean_of b.head) (wrap_of b.head.method) b.head.size.width u b.rows (parts_of b.head b.rows).maps) r [])
  built_left_out v u r o w l h =
      shown-left-out (mean_of b.head) (wrap_of b.head.method) b.head.size.width b.head.depth b.head.growth b.range v u (sym (built_offers v) ∙ o) (sym (built_offers u) ∙ w) l
      (built_rows b.head b.rows b.picture b.range) (built_maps b.head b.rows b.picture b.range) (built_numbered b.head b.rows b.picture b.range) r h
