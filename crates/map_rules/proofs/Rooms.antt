-- How the places in a work space lie to each other, and what it says of a space that nothing refuses: the sides are within the limits,
-- the depth is below the width, and the space is as long as it must be.
use mathlib.Core.Path.{◌≡◌, refl, ◌∙◌}
use mathlib.Core.Bool.{cond}
use mathlib.Core.List.{[], ◌∷◌}
use Prim.Native.Nat.{ℕ, ◌+◌, ◌*◌, ◌≤◌, ◌<◌}
use native.Mathlib.Nat.{mul_left_comm}
use native.Mathlib.Omega.{arith}
use borrow.Author.Tests.{leb-false, ltb-false, lt-leb, le-ltb}
use lib.Dec.{leb, ltb}
use Rattle.pictures.specs.declared.sizes.Size.{Size}
use Rattle.pictures.specs.Refusals.{◌when◌, refusal}
use Rattle.pictures.specs.Pictures.{side_rules, picture_bytes, pixels, work_bytes}
use Rattle.pictures.proofs.Rules.{served-first, served-both, passed}
use Rattle.pictures.proofs.Limits.{Sides, sides_are, bytes-few}
use Rattle.map_rules.specs.Spaces.{map_bytes, map_at, recorded_at, map_space_rules}

-- The map that is built ends where the recorded one begins. The picture and a byte for each pixel end before both.
pub map-end : (z : Size) → map_at z + map_bytes z ≡ recorded_at z
map-end z = omega arith

pub picture_room : (z : Size) → picture_bytes z + pixels z ≤ map_at z
picture_room z = omega (arith, bytes-few z)

-- A map row by row: two bytes for each pixel of a row.
pub map-rows : (z : Size) → z.height * (2 * z.width) ≡ map_bytes z
map-rows z = mul_left_comm z.height 2 z.width

-- What a work space is that nothing refuses.
pub record Room (z : Size) (depth space : ℕ) : Type 0 where
  pub served : refusal (side_rules z) ≡ 0
  pub sides : Sides z
  pub deep : depth < z.width
  pub long : work_bytes z ≤ space

pub room_is : (z : Size) (depth space : ℕ) → refusal (map_space_rules z depth space) ≡ 0 → Room z depth space
room_is z depth space e =
    let parts = served-both (side_rules z) (6 when leb z.width depth ∷ 8 when ltb space (work_bytes z) ∷ []) refl e in
    let first = passed (leb z.width depth) 5 (cond (ltb space (work_bytes z)) 8 0) parts.1 in
    let second = passed (ltb space (work_bytes z)) 7 0 first.1 in
    record {
      served = parts.0;
      sides = sides_are z parts.0;
      deep = leb-false _ _ first.0;
      long = ltb-false _ _ second.0;
    }

-- Where the sides are served, the depth is below the width and the space is long enough, nothing is refused.
pub room-served : (z : Size) (depth space : ℕ) → refusal (side_rules z) ≡ 0 → depth < z.width → work_bytes z ≤ space → refusal (map_space_rules z depth space) ≡ 0
room-served z depth space e deep long =
    served-first (side_rules z) (6 when leb z.width depth ∷ 8 when ltb space (work_bytes z) ∷ []) refl e
    ∙ simp (lt-leb _ _ deep, le-ltb _ _ long)
