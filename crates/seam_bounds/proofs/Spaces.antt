-- What it says of the spaces that a seam can be looked for.
use mathlib.Core.Path.{◌≡◌, refl}
use mathlib.Core.Bool.{Bool, cond}
use mathlib.Core.List.{[], ◌∷◌}
use Prim.Native.Nat.{ℕ, ◌+◌, ◌≤◌}
use lib.Dec.{ltb}
use borrow.Author.Tests.{ltb-false}
use Rattle.pictures.specs.declared.sizes.Size.{Size}
use Rattle.pictures.specs.Refusals.{◌when◌, refusal}
use Rattle.pictures.specs.Pictures.{side_rules, picture_bytes}
use Rattle.pictures.proofs.Rules.{served-both, passed}
use Rattle.seam_bounds.specs.Spaces.{bytes_after, find_space_rules}

pub record Rooms (z : Size) (marked : Bool) (space seam : ℕ) : Type 0 where
  pub sides : refusal (side_rules z) ≡ 0
  pub seam_room : z.height ≤ seam
  pub room : picture_bytes z + bytes_after z marked ≤ space

pub rooms_are : (z : Size) (marked : Bool) (space seam : ℕ) → refusal (find_space_rules z marked space seam) ≡ 0 → Rooms z marked space seam
rooms_are z marked space seam e =
    let needed = picture_bytes z + bytes_after z marked in
    let parts = served-both (side_rules z) (8 when ltb seam z.height ∷ 8 when ltb space (picture_bytes z + bytes_after z marked) ∷ []) refl e in
    let first = passed (ltb seam z.height) 7 (cond (ltb space (picture_bytes z + bytes_after z marked)) 8 0) parts.1 in
    let second = passed (ltb space (picture_bytes z + bytes_after z marked)) 7 0 first.1 in
    record {
      sides = parts.0;
      seam_room = ltb-false seam z.height first.0;
      room = ltb-false space needed second.0;
    }
