-- What stands in the planes and in the map after t seams, and what it says of the next one and of the end.
use mathlib.Core.Path.{◌≡◌, sym, ap, ap₂, ◌∙◌}
use mathlib.Core.Bool.{false}
use mathlib.Core.List.{List, ◌++◌, map}
use Prim.Native.Nat.{ℕ, suc, ◌+◌, ◌-◌, ◌*◌, ◌≤◌, ◌<◌}
use native.Mathlib.Nat.{zero-mul, suc-mul}
use native.Mathlib.Numerals.{add-one}
use native.Mathlib.Omega.{arith}
use lib.ListN.{length, take, replicate, replicate-append-replicate}
use lib.Seq.{take_all, length-take-le}
use Rattle.grids.specs.Each.{Grid, none, more}
use Rattle.grids.specs.Cut.{cut}
use Rattle.grids.specs.Table.{table}
use Rattle.grids.specs.Rows.{flat}
use Rattle.grids.proofs.Shapes.{grid_of}
use Rattle.grids.proofs.Rows.{flat-rows_of}
use Rattle.pictures.specs.declared.sizes.Size.{Size}
use Rattle.pictures.specs.Pictures.{Picture, OfSize, picture, pixels, picture_bytes}
use Rattle.pictures.specs.Numbers.{pairs, numbers_in}
use Rattle.pictures.proofs.Samples.{AreBytes, take_bytes, each-bytes}
use Rattle.pictures.proofs.Buffers.{picture-of_size, bytes-picture}
use Rattle.pictures.proofs.TwoBytes.{rows-pairs, pairs-append, pairs-zeros, pairs-numbers, length-numbers}
use Rattle.energy.specs.declared.methods.Method.{Method}
use Rattle.energy.specs.declared.pixels.Step.{Step}
use Rattle.energy.specs.declared.pixels.Step.TheVariants.{Up, Left, Right}
use Rattle.energy.specs.Energy.{one_cost}
use Rattle.seam_theory.specs.PictureSeams.{seam_of}
use Rattle.seam_theory.proofs.Choosing.{seam_chooses}
use Rattle.seam_planes.specs.Planes.{fronts, numbers_of}
use Rattle.seam_planes.proofs.Fronts.{fronts_all}
use Rattle.seam_planes.proofs.Elements.{numbers_grid}
use Rattle.seam_keep.specs.Keeping.{cost_grid}
use Rattle.map_theory.specs.Maps.{carve, map_of, zeros}
use Rattle.map_theory.proofs.Levels.{write_all, grid-zeros}
use Rattle.map_theory.proofs.Maps.{carve-next, map_next}
use Rattle.map_theory.proofs.LeftColumns.{left_columns, all-left_zeros}
use Rattle.map_rules.specs.Spaces.{map_bytes}
use Rattle.map_rules.proofs.Rooms.{map-rows}
use Rattle.map_build.specs.Inner.Carving.{left_picture, Held, PlanesSized, StepGiven, CarveGiven}

-- A map of zeros.
pub map-zeros : {A : Type 0} {w h : ℕ} {p : List (List A)} → Grid w h p → pairs (flat (zeros p)) ≡ replicate (h * (2 * w)) 0
map-zeros {A} {w} none = rw (zero-mul (2 * w))
map-zeros {A} {w} (more {n = h} {x = x} {xs = p} e g) =
    let n : 2 * length x + h * (2 * w) ≡ suc h * (2 * w) = omega (arith, suc-mul h (2 * w), ap (2 *◌) e) in
    pairs-append (map (λ a. 0) x) (flat (zeros p))
    ∙ ap₂ ◌++◌ (pairs-zeros x) (map-zeros g) ∙ replicate-append-replicate (2 * length x) (h * (2 * w)) 0 ∙ ap (λ k. replicate k 0) n

-- The picture p without its first t seams, what is kept of it, and its map of that depth.
pub record Carved (z : Size) (how : Method) (p : Picture) (t : ℕ) (plane up left right columns map_left : List ℕ) : Type 0 where
  pub sized : PlanesSized z (length plane) (length up) (length left) (length right) (length columns) (length map_left)
  pub picture_left : left_picture z (z.width - t) plane ≡ carve (seam_of how) t z.width z.height p
  pub numbered : numbers_of z.width z.height map_left ≡ map_of (seam_of how) t z.width z.height p
  pub held : Held z how (z.width - t) plane up left right columns map_left

module _ (z : Size) (how : Method) where
  -- Before the first seam the costs are all of the picture's, the columns all of each row, and the map holds zeros.
  pub carved_start : (plane up left right columns map_left : List ℕ) → PlanesSized z (length plane) (length up) (length left) (length right) (length columns) (length map_left)
      → numbers_of z.width z.height up ≡ cost_grid how Up z.width z.height (picture z plane)
      → (one_cost how.energy ≡ false → numbers_of z.width z.height left ≡ cost_grid how Left z.width z.height (picture z plane))
      → (one_cost how.energy ≡ false → numbers_of z.width z.height right ≡ cost_grid how Right z.width z.height (picture z plane))
      → numbers_of z.width z.height columns ≡ table (λ r. table (λ c. c) z.width) z.height
      → map_left ≡ replicate (length map_left) 0
      → Carved z how (picture z plane) 0 plane up left right columns map_left
  carved_start plane up left right columns map_left sized ups lefts rights all blank_map =
      let e : z.width - 0 ≡ z.width = omega arith in
      record {
        sized = sized;
        picture_left = rw e whole;
        numbered = blank;
        held = record {
          up_costs = rw e (side up Up sized.up_long ups);
          left_costs = λ o. rw e (side left Left sized.left_long (lefts o));
          right_costs = λ o. rw e (side right Right sized.right_long (rights o));
          first_columns = rw e (fronts_all (grid columns sized.columns_long) ∙ all ∙ sym (ap (map left_columns) blank ∙ all-left_zeros g));
        };
      }
    where
      g : Grid z.width z.height (picture z plane)
      g = grid_of (picture-of_size z plane sized.picture_long)

      whole : fronts z.width (picture z plane) ≡ picture z plane
      whole = fronts_all g

      grid : (x : List ℕ) → length x ≡ map_bytes z → Grid z.width z.height (numbers_of z.width z.height x)
      grid x l = numbers_grid z.width z.height x (l ∙ sym (map-rows z))

      side : (x : List ℕ) (from : Step) → length x ≡ map_bytes z → numbers_of z.width z.height x ≡ cost_grid how from z.width z.height (picture z plane)
          → fronts z.width (numbers_of z.width z.height x) ≡ cost_grid how from z.width z.height (fronts z.width (picture z plane))
      side x from l is = fronts_all (grid x l) ∙ is ∙ ap (cost_grid how from z.width z.height) (sym whole)

      blank : numbers_of z.width z.height map_left ≡ zeros (picture z plane)
      blank =
          let n : length map_left ≡ z.height * (2 * z.width) = sized.map_long ∙ sym (map-rows z) in
          ap (numbers_of z.width z.height) (blank_map ∙ ap (λ k. replicate k 0) n ∙ sym (map-zeros g)) ∙ rows-pairs (grid-zeros g)

  -- One seam more.
  pub carved_turn : (p : Picture) → OfSize z p → (t number : ℕ) (plane up left right columns map_left plane' up' left' right' columns' map' : List ℕ)
      → t < z.width → number ≡ t + 1 → Carved z how p t plane up left right columns map_left
      → StepGiven z how (z.width - t) number plane up left right map_left plane' up' left' right' columns' map' → Carved z how p (t + 1) plane' up' left' right' columns' map'
  carved_turn p o t number plane up left right columns map_left plane' up' left' right' columns' map' l m c g =
      let e : z.width - (t + 1) ≡ z.width - t - 1 = omega arith in
      record {
        sized = g.sized;
        picture_left =
            rw (e, add-one t)
            (g.picture_left ∙ ap (λ q. cut (seam_of how (z.width - t) z.height q) q) c.picture_left ∙ sym (carve-next (seam_of how) t z.width z.height p));
        numbered =
            rw (add-one t)
            (g.numbered
            ∙ ap₂ (λ q M. write_all number (seam_of how (z.width - t) z.height q) M) c.picture_left c.numbered
            ∙ ap (λ v. write_all v (seam_of how (z.width - t) z.height (carve (seam_of how) t z.width z.height p)) (map_of (seam_of how) t z.width z.height p)) (m ∙ add-one t)
            ∙ sym (map_next (seam_of how) (seam_chooses how) t z.width z.height p (grid_of o) l));
        held = rw e g.held;
      }

-- A map's bytes are those of its numbers.
pub map_is : (z : Size) (b : List ℕ) → length b ≡ map_bytes z → AreBytes b → b ≡ pairs (flat (numbers_of z.width z.height b))
map_is z b e small =
    let many : length (numbers_in b) ≡ z.height * z.width = omega (arith, length-numbers b, e) in
    sym (ap pairs (flat-rows_of z.width z.height (numbers_in b) ∙ take_all (z.height * z.width) (numbers_in b) (omega (arith, many)))
    ∙ pairs-numbers (pixels z) b (rw e at (each-bytes b small)))

-- Where no seam is cut the picture is as it was, and its map holds zeros.
pub carved_none : (z : Size) (how : Method) (work map_left : List ℕ) → picture_bytes z ≤ length work → AreBytes work
    → length map_left ≡ map_bytes z → map_left ≡ replicate (length map_left) 0 → CarveGiven z how 0 work work map_left
carved_none z how work map_left room small long blank =
    let e : z.width - 0 ≡ z.width = omega arith in
    let plane = take (picture_bytes z) work in
    let l : length plane ≡ picture_bytes z = length-take-le (picture_bytes z) work room in
    record {
      packed = rw e (sym (bytes-picture z plane l (take_bytes (picture_bytes z) work small)));
      map_given = blank ∙ ap (λ k. replicate k 0) (long ∙ sym (map-rows z)) ∙ sym (map-zeros (grid_of (picture-of_size z plane l)));
    }
