-- What 7 and 8 let through: a width that is offered, and room for what is shown.
use mathlib.Core.Path.{◌≡◌}
use mathlib.Core.Bool.{true, cond, not}
use mathlib.Core.List.{List}
use Prim.Native.Nat.{ℕ, ◌*◌, ◌≤◌}
use native.Mathlib.Omega.{arith}
use lib.Dec.{ltb}
use borrow.Author.Tests.{ltb-false, not-false}
use Rattle.pictures.specs.declared.sizes.Size.{Size}
use Rattle.pictures.specs.Refusals.{refusal}
use Rattle.pictures.specs.Pictures.{pixel_bytes, picture_bytes, pixels}
use Rattle.pictures.proofs.Rules.{passed}
use Rattle.pictures.proofs.Limits.{bytes-few}
use Rattle.map_theory.specs.Widths.{offered}
use Rattle.map_theory.proofs.Shown.{offered_is}
use Rattle.text_theory.specs.declared.Head.{Head}
use Rattle.file_rules.specs.Spaces.{offer_rules}
use Rattle.file_rules.specs.Inner.{Sound}
use Rattle.file_rules.proofs.Ranges.{Bounded, bounded}
use Rattle.file_read.proofs.Parsed.{Parsed}

-- Size and range of a file that is opened are allowed.
pub sound : {file : List ℕ} {h : Head} → Parsed file h → Sound h
sound k = record { sides = k.sides_served; range = k.range }

-- None of 7 and 8 is given.
pub record Roomy (h : Head) (v out work : ℕ) : Type 0 where
  pub offers : offered h.size.width h.depth h.growth v ≡ true
  pub bounds : Bounded h v
  pub out_room : h.size.height * (v * pixel_bytes h.size.kind) ≤ out
  pub work_room : 32 * pixels h.size ≤ work

pub roomy : (h : Head) (v out work : ℕ) → Sound h → refusal (offer_rules h v out work) ≡ 0 → Roomy h v out work
roomy h v out work s e =
    let shown = h.size.height * (v * pixel_bytes h.size.kind) in
    let o = offered h.size.width h.depth h.growth v in
    let a = passed (not o) 6 (cond (ltb out shown) 8 (cond (ltb work (32 * pixels h.size)) 8 0)) e in
    let b = passed (ltb out shown) 7 (cond (ltb work (32 * pixels h.size)) 8 0) a.1 in
    let c = passed (ltb work (32 * pixels h.size)) 7 0 b.1 in
    let is = not-false o a.0 in
    record {
      offers = is;
      bounds = bounded h v s ((offered_is h.size.width h.depth h.growth v).0 is).1;
      out_room = ltb-false out shown b.0;
      work_room = ltb-false work (32 * pixels h.size) c.0;
    }

-- A picture takes at most six bytes a pixel, so the work space has room for it.
pub picture-fits : (z : Size) (work : ℕ) → 32 * pixels z ≤ work → picture_bytes z ≤ work
picture-fits z work l = omega (arith, bytes-few z)
