-- Size and range that are allowed: what they bound, and which rules are then left to decide.
use mathlib.Core.Path.{◌≡◌, refl, ◌∙◌}
use mathlib.Core.Bool.{not}
use mathlib.Core.List.{◌∷◌}
use Prim.Native.Nat.{ℕ, ◌+◌, ◌*◌, ◌/◌, ◌≤◌}
use native.Mathlib.Nat.{mul-le-mul}
use native.Mathlib.Omega.{arith}
use Rattle.pictures.specs.Limits.{most_side}
use Rattle.pictures.specs.declared.sizes.Size.{Size}
use Rattle.pictures.specs.Refusals.{◌when◌, refusal}
use Rattle.pictures.specs.Pictures.{pixel_bytes, side_rules}
use Rattle.pictures.proofs.Rules.{served-first}
use Rattle.pictures.proofs.Limits.{sides_are}
use Rattle.map_theory.specs.Widths.{allowed}
use Rattle.map_theory.proofs.Shown.{allowed_is}
use Rattle.text_theory.specs.declared.Head.{Head}
use Rattle.file_rules.specs.Inner.{Sound}
use Rattle.file_rules.specs.Spaces.{space_rules, read_space_rules, offer_rules, wanted_rules}
use Rattle.map_theory.specs.Bounds.{most_width, most_shown_row, most_shown}

-- Where they are served, 8 alone is left of what reading refuses.
pub read_own_lem : (z : Size) (picture map work : ℕ) → refusal (side_rules z) ≡ 0 → refusal (read_space_rules z picture map work) ≡ refusal (space_rules z picture map work)
read_own_lem z picture map work e = served-first (side_rules z) (space_rules z picture map work) refl e

-- Then 7 and 8 are left of what showing refuses.
pub wanted_own : (h : Head) (v out work : ℕ) → Sound h → refusal (wanted_rules h v out work) ≡ refusal (offer_rules h v out work)
wanted_own h v out work s =
    served-first (side_rules h.size) (6 when not (allowed h.size.width h.depth h.growth) ∷ offer_rules h v out work) refl s.sides
    ∙ rw s.range

-- A width of at most m + g, and the bytes of a row and of a picture that wide.
pub record Bounded (h : Head) (v : ℕ) : Type 0 where
  pub width_most : v ≤ most_width
  pub row_most : v * pixel_bytes h.size.kind ≤ most_shown_row
  pub shown_most : h.size.height * (v * pixel_bytes h.size.kind) ≤ most_shown

pub growth_most : (h : Head) → Sound h → h.growth ≤ most_side / 2
growth_most h s =
    let a = ((allowed_is h.size.width h.depth h.growth).0 s.range).2 in
    omega (arith, (sides_are h.size s.sides).width_small)

pub bounded : (h : Head) (v : ℕ) → Sound h → v ≤ h.size.width + h.growth → Bounded h v
bounded h v s l =
    let z = sides_are h.size s.sides in
    let wide : v ≤ most_width = omega (arith, growth_most h s, z.width_most) in
    let row : v * pixel_bytes h.size.kind ≤ most_shown_row = mul-le-mul wide z.pixel_most in
    record { width_most = wide; row_most = row; shown_most = mul-le-mul z.height_small row }
