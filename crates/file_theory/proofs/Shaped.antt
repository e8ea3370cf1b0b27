-- Parts that none of 2, 3, 4 and 6 refuses, and the parts of an allowed picture and range.
use mathlib.Core.Path.{◌≡◌, refl, ◌∙◌}
use mathlib.Core.Logic.{◌↔◌}
use mathlib.Core.Bool.{Bool, true, not, cond, ◌&&◌, and-eq-true_iff}
use mathlib.Core.List.{List, [], ◌∷◌}
use Prim.Native.Nat.{ℕ, ◌≤◌, ◌<◌}
use native.Mathlib.Omega.{arith}
use lib.Dec.{leb}
use borrow.Author.Tests.{leb-true, not-false}
use Rattle.grids.specs.Each.{Each, Grid}
use Rattle.grids.proofs.Shapes.{each_any, each_weaken, grid_of}
use Rattle.pictures.specs.Numbers.{largest_number}
use Rattle.pictures.specs.declared.sizes.Size.{Size}
use Rattle.pictures.specs.Refusals.{◌when◌, refusal}
use Rattle.pictures.specs.Pictures.{Picture, side_rules, OfSize}
use Rattle.pictures.proofs.Rules.{served-first, served-both, passed}
use Rattle.pictures.proofs.Limits.{sides_are}
use Rattle.map_theory.specs.Widths.{allowed}
use Rattle.map_theory.specs.Judged.{every, Numbering}
use Rattle.map_theory.proofs.Numberings.{numbering_most}
use Rattle.map_theory.proofs.Maps.{map-grid, map-numbered}
use Rattle.map_theory.proofs.Shown.{allowed_is}
use Rattle.text_theory.specs.declared.Head.{Head}
use Rattle.text_theory.specs.Files.{Parts, All, Within}
use Rattle.file_theory.specs.Contents.{choose_of, parts_of}
use Rattle.file_theory.proofs.Heads.{head_chooses}
use Rattle.file_theory.specs.Rules.{filled, part_rules}
use Rattle.file_theory.specs.Demands.{AllowedPicture, Shaped}
use Rattle.file_theory.proofs.Shapes.{all-each, each_all, filled_is}

pub shaped_is : (p : Parts) → (refusal (part_rules p) ≡ 0) ↔ Shaped p
shaped_is p = (there, back)
  where
    w : ℕ
    w = p.head.size.width

    h : ℕ
    h = p.head.size.height

    t : Bool
    t = filled w h p.rows && filled w h p.maps

    u : Bool
    u = allowed w p.head.depth p.head.growth

    there : refusal (part_rules p) ≡ 0 → Shaped p
    there e =
        let b = served-both (side_rules p.head.size) (4 when not t ∷ 6 when not u ∷ []) refl e in
        let c = passed (not t) 3 (cond (not u) 6 0) b.1 in
        let d = passed (not u) 5 0 c.1 in
        let g = (and-eq-true_iff (filled w h p.rows) (filled w h p.maps)).0 (not-false t c.0) in
        record { sides = b.0; rows = (filled_is w h p.rows).0 g.0; maps = (filled_is w h p.maps).0 g.1; range = not-false u d.0 }

    back : Shaped p → refusal (part_rules p) ≡ 0
    back s =
        served-first (side_rules p.head.size) (4 when not t ∷ 6 when not u ∷ []) refl s.sides
        ∙ rw ((filled_is w h p.rows).1 s.rows, (filled_is w h p.maps).1 s.maps, s.range)

-- Where they also have a text, the picture is allowed.
pub shaped_picture : (p : Parts) → Within p → Shaped p → AllowedPicture p.head.size p.rows
shaped_picture p i s = record {
  sides = s.sides;
  pixels = each_all (λ row e a. each_all (λ px u q. q) (each_any p.head.size.width row e) a) s.rows i.rows;
}

pub allowed-of_size : (z : Size) (p : Picture) → AllowedPicture z p → OfSize z p
allowed-of_size z p a = each_weaken (λ row e. each_weaken (λ px q. q.count) e) a.pixels

numbers_small : (k : ℕ) (ys : List ℕ) → k ≤ largest_number → every (λ v. leb v k) ys ≡ true → All (λ (v : ℕ). v ≤ largest_number) ys
numbers_small k [] l e = tt
numbers_small k (v ∷ ys) l e =
    let b = (and-eq-true_iff (leb v k) (every (λ v. leb v k) ys)).0 e in
    (omega (arith, leb-true v k b.0), numbers_small k ys l b.1)

-- The parts of an allowed picture at an allowed range are so, and have a text.
module _ (h : Head) (p : Picture) (a : AllowedPicture h.size p) (range : allowed h.size.width h.depth h.growth ≡ true) where
  pub built_rows : Grid h.size.width h.size.height p
  built_rows = grid_of a.pixels

  pub built_depth : h.depth < h.size.width
  built_depth = ((allowed_is h.size.width h.depth h.growth).0 range).0

  pub built_maps : Grid h.size.width h.size.height (parts_of h p).maps
  built_maps = map-grid (choose_of h) (head_chooses h) h.depth h.size.width h.size.height p built_rows (omega (arith, built_depth))

  pub built_numbered : Each (Numbering h.depth) h.size.height (parts_of h p).maps
  built_numbered = map-numbered (choose_of h) (head_chooses h) h.depth h.size.width h.size.height p built_rows (omega (arith, built_depth))

  pub built_shaped : Shaped (parts_of h p)
  built_shaped = record { sides = a.sides; rows = built_rows; maps = built_maps; range = range }

  pub built_within : Within (parts_of h p)
  built_within =
      let s = sides_are h.size a.sides in
      let w = s.width_most in
      let d = built_depth in
      let g = ((allowed_is h.size.width h.depth h.growth).0 range).1 in
      record {
        head = record { width = omega arith; height = omega (arith, s.height_most); depth = omega arith; growth = omega arith };
        rows = all-each (λ row e. all-each (λ px q. q) e) a.pixels;
        maps = all-each (λ ys n. numbers_small h.depth ys (omega arith) (numbering_most h.depth ys n)) built_numbered;
      }
