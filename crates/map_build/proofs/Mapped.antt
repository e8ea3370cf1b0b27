-- The parts of a work space put together: what is left of the picture, zeros, the map, and what stood after it.
use mathlib.Core.Path.{◌≡◌, sym, ap, ap₂, ◌∙◌}
use mathlib.Core.List.{List, ◌++◌, map, append-nil, append_assoc}
use Prim.Native.Nat.{ℕ, ◌-◌, ◌*◌, ◌≤◌, ◌<◌}
use native.Mathlib.Nat.{mul-le-mul_left, mul-le-mul_right}
use native.Mathlib.Omega.{arith}
use borrow.Rule.Slice.PartMut.{put_mid, mid_of}
use lib.ListN.{length, take, drop, replicate, drop_of_length-le, length-append, length-replicate}
use lib.Seq.{length-take-le, drop-drop, take-take, take_at, drop_at}
use Rattle.grids.specs.Rows.{flat}
use Rattle.grids.proofs.Parts.{put_part, part_length}
use Rattle.pictures.specs.declared.sizes.Size.{Size}
use Rattle.pictures.specs.Pictures.{Picture, OfSize, pixel_bytes, picture, picture_bytes, bytes, picture_in}
use Rattle.pictures.proofs.Buffers.{picture-of_size, length-bytes}
use Rattle.pictures.proofs.TwoBytes.{pairs-flat, grid-pairs}
use Rattle.pictures.specs.Numbers.{pairs}
use Rattle.pictures.proofs.Limits.{bytes-few}
use Rattle.energy.specs.declared.methods.Method.{Method}
use Rattle.seam_theory.specs.PictureSeams.{seam_of}
use Rattle.map_theory.specs.Maps.{carve, map_of}
use Rattle.map_rules.specs.Spaces.{map_bytes, map_at, recorded_at}
use Rattle.map_rules.proofs.Rooms.{map-end, map-rows, picture_room}
use Rattle.map_theory.proofs.Maps.{map-grid, carve-each}
use Rattle.seam_theory.proofs.Choosing.{seam_chooses}
use Rattle.grids.specs.Each.{Grid}
use Rattle.grids.proofs.Shapes.{grid_of}
use Rattle.grids.proofs.Rows.{length-flat}
use Rattle.map_build.specs.Building.{with_zeros, mapped}
use Rattle.map_build.specs.Inner.Carving.{CarveGiven}

-- What is left of the picture ends before the maps.
pub left_within : (z : Size) (t : ℕ) → z.height * ((z.width - t) * pixel_bytes z.kind) ≤ map_at z
left_within z t =
    let less : z.height * ((z.width - t) * pixel_bytes z.kind) ≤ picture_bytes z = mul-le-mul_left z.height (mul-le-mul_right (pixel_bytes z.kind) (omega arith)) in
    omega (arith, less, bytes-few z)

-- The picture at the front of a space is that at the front of its work.
pub picture_there : (z : Size) (space : List ℕ) → picture_in z (take (map_at z) space) ≡ picture_in z space
picture_there z space = ap (picture z) (take-take (picture_bytes z) (map_at z) space (omega (arith, bytes-few z)))

module _ (z : Size) (how : Method) (depth : ℕ) (space work map_left blank : List ℕ) (left : ℕ)
    (is : left ≡ z.height * ((z.width - depth) * pixel_bytes z.kind)) (long : length work ≡ map_at z) (within : left ≤ length work)
    (given : CarveGiven z how depth (take (map_at z) space) work map_left)
    (cleared : blank ≡ replicate (length (mid_of left (length work - left) work)) 0) where
  abbrev rest : List ℕ
  rest = bytes z.kind (carve (seam_of how) depth z.width z.height (picture_in z space))

  packed : take left work ≡ rest
  packed = ap (λ k. take k work) is ∙ given.packed ∙ ap (λ p. bytes z.kind (carve (seam_of how) depth z.width z.height p)) (picture_there z space)

  front : put_mid left (length work - left) work blank ≡ with_zeros (map_at z) rest
  front =
      let n : length (mid_of left (length work - left) work) ≡ map_at z - length rest =
      part_length left (length work) work (omega arith) ∙ omega (arith, long, ap length packed, length-take-le left work within) in
      put_part left (length work) work blank within
      ∙ ap₂ (λ a b. a ++ (blank ++ b)) packed (drop_of_length-le work (omega arith))
      ∙ ap (rest ++◌) (append-nil blank ∙ cleared ∙ ap (λ k. replicate k 0) n)

  behind : drop (map_bytes z) (drop (map_at z) space) ≡ drop (recorded_at z) space
  behind = drop-drop (map_bytes z) (map_at z) space ∙ ap (λ k. drop k space) (map-end z)

  pub mapped_is : put_mid left (length work - left) work blank ++ (map_left ++ drop (map_bytes z) (drop (map_at z) space))
      ≡ mapped z how depth (picture_in z space) ++ drop (recorded_at z) space
  mapped_is =
      let m : map_left ≡ pairs (flat (map_of (seam_of how) depth z.width z.height (picture_in z space))) =
      given.map_given ∙ ap (λ p. pairs (flat (map_of (seam_of how) depth z.width z.height p))) (picture_there z space) in
      ap₂ (λ a b. a ++ (map_left ++ b)) front behind
      ∙ ap (λ x. with_zeros (map_at z) rest ++ (x ++ drop (recorded_at z) space)) m
      ∙ sym (append_assoc (with_zeros (map_at z) rest) (pairs (flat (map_of (seam_of how) depth z.width z.height (picture_in z space)))) (drop (recorded_at z) space))

-- The picture that stands at the front of a space is of its size.
pub there_of_size : (z : Size) (space : List ℕ) → map_at z ≤ length space → OfSize z (picture_in z space)
there_of_size z space l = picture-of_size z (take (picture_bytes z) space) (length-take-le (picture_bytes z) space (omega (arith, picture_room z, l)))

-- Where the map stands in a space in which one was built, and what stands after it.
module _ (z : Size) (how : Method) (p : Picture) (o : OfSize z p) (t : ℕ) (deep : t < z.width) where
  -- What is left of the picture, and its map.
  abbrev q : Picture
  q = carve (seam_of how) t z.width z.height p

  abbrev left_size : Size
  left_size = record { width = z.width - t; height = z.height; kind = z.kind }

  q_of : OfSize left_size q
  q_of = carve-each (seam_of how) (seam_chooses how) t z.width z.height p deep o

  long-bytes : length (bytes z.kind q) ≡ picture_bytes left_size
  long-bytes = length-bytes left_size q q_of

  abbrev m : List (List ℕ)
  m = map_of (seam_of how) t z.width z.height p

  grid-m : Grid (2 * z.width) z.height (map pairs m)
  grid-m = grid-pairs (map-grid (seam_of how) (seam_chooses how) t z.width z.height p (grid_of o) (omega (arith, deep)))

  map-long : length (pairs (flat m)) ≡ map_bytes z
  map-long = ap length (pairs-flat m) ∙ length-flat grid-m ∙ map-rows z

  abbrev before_map : List ℕ
  before_map = with_zeros (map_at z) (bytes z.kind q)

  before_long : length before_map ≡ map_at z
  before_long =
      let none : ℕ = map_at z - length (bytes z.kind q) in
      omega (arith, length-append (bytes z.kind q) (replicate none 0), length-replicate {A = ℕ} none 0, long-bytes, left_within z t)

  -- All before the map, and the map, with what follows.
  module _ (rest : List ℕ) where
    abbrev whole : List ℕ
    whole = mapped z how t p ++ rest

    parts : whole ≡ before_map ++ (pairs (flat m) ++ rest)
    parts = append_assoc before_map (pairs (flat m)) rest

    take-before : take (map_at z) whole ≡ before_map
    take-before = ap (take (map_at z)) parts ∙ take_at before_map (pairs (flat m) ++ rest) (map_at z) before_long

    drop-before : drop (map_at z) whole ≡ pairs (flat m) ++ rest
    drop-before = ap (drop (map_at z)) parts ∙ drop_at before_map (pairs (flat m) ++ rest) (map_at z) before_long

    pub take-map : take (map_bytes z) (drop (map_at z) whole) ≡ pairs (flat m)
    take-map = ap (take (map_bytes z)) drop-before ∙ take_at (pairs (flat m)) rest (map_bytes z) map-long

    pub drop-map : drop (recorded_at z) whole ≡ rest
    drop-map =
        ap (λ n. drop n whole) (sym (map-end z))
        ∙ sym (drop-drop (map_bytes z) (map_at z) whole) ∙ ap (drop (map_bytes z)) drop-before ∙ drop_at (pairs (flat m)) rest (map_bytes z) map-long
