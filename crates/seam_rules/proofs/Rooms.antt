-- What the rules say of sizes and lengths that they don't refuse.
use mathlib.Core.Path.{◌≡◌, refl, ◌∙◌}
use mathlib.Core.Bool.{true, false, not, cond}
use mathlib.Core.List.{List, [], ◌∷◌}
use Prim.Native.Nat.{ℕ, ◌*◌, ◌≤◌, ◌<◌}
use native.Mathlib.Omega.{arith}
use lib.Dec.{eqb, ltb}
use borrow.Author.Tests.{ne_eqb, eq-eqb, eqb-true, le-ltb, ltb-false, leb-true, leb-false, not-false}
use Rattle.pictures.specs.declared.sizes.Size.{Size}
use Rattle.pictures.specs.declared.refusals.Refusal.{Refusal}
use Rattle.pictures.specs.Refusals.{◌when◌, number_of, refusal}
use Rattle.pictures.specs.Pictures.{picture_bytes, size_rules, pixels}
use Rattle.pictures.proofs.Rules.{served-first, served-both, passed, number-some}
use Rattle.seam_rules.specs.declared.answers.Axis.{Axis}
use Rattle.seam_rules.specs.Axes.{turned_size}
use Rattle.seam_rules.specs.Cuts.{cleared, find_rules, close_along_lengths, mark_allowed}

-- Finding: a picture of its size, and room for the seam and for the work.
pub record FindRoom (x : Axis) (z : Size) (bytes seam work : ℕ) : Type 0 where
  pub sized : refusal (size_rules z bytes) ≡ 0
  pub seam_room : (turned_size x z).height ≤ seam
  pub work_room : 32 * pixels z ≤ work

pub find_room : (x : Axis) (z : Size) (bytes seam work : ℕ) → refusal (find_rules x z bytes seam work) ≡ 0 → FindRoom x z bytes seam work
find_room x z bytes seam work e =
    let parts = served-both (size_rules z bytes) (8 when ltb seam (turned_size x z).height ∷ 8 when ltb work (32 * pixels z) ∷ []) refl e in
    let first = passed (ltb seam (turned_size x z).height) 7 (cond (ltb work (32 * pixels z)) 8 0) parts.1 in
    let second = passed (ltb work (32 * pixels z)) 7 0 first.1 in
    record {
      sized = parts.0;
      seam_room = ltb-false _ _ first.0;
      work_room = ltb-false _ _ second.0;
    }

-- Closing up: a picture of its size, a seam as long as the picture is along the axis, and room for the picture turned.
pub record CloseRoom (x : Axis) (z : Size) (bytes seam work : ℕ) : Type 0 where
  pub sized : refusal (size_rules z bytes) ≡ 0
  pub seam_long : seam ≡ (turned_size x z).height
  pub room : picture_bytes z ≤ work

pub close_room : (x : Axis) (z : Size) (bytes seam work : ℕ) → refusal (close_along_lengths x z bytes seam work) ≡ 0 → CloseRoom x z bytes seam work
close_room x z bytes seam work e =
    let h = (turned_size x z).height in
    let parts = served-both (size_rules z bytes) (4 when not (eqb seam (turned_size x z).height) ∷ 8 when ltb work (picture_bytes z) ∷ []) refl e in
    let first = passed (not (eqb seam h)) 3 (cond (ltb work (picture_bytes z)) 8 0) parts.1 in
    let second = passed (ltb work (picture_bytes z)) 7 0 first.1 in
    record {
      sized = parts.0;
      seam_long = eqb-true _ _ (not-false (eqb seam h) first.0);
      room = ltb-false _ _ second.0;
    }

pub close_length : (x : Axis) (z : Size) (bytes seam work : ℕ) → CloseRoom x z bytes seam work → refusal (close_along_lengths x z bytes seam work) ≡ 0
close_length x z bytes seam work c =
    served-first (size_rules z bytes) (4 when not (eqb seam (turned_size x z).height) ∷ 8 when ltb work (picture_bytes z) ∷ []) refl c.sized
    ∙ simp (eq-eqb _ _ c.seam_long, le-ltb _ _ c.room)

-- A mark that is allowed is below 3.
pub mark_below : (m : ℕ) → mark_allowed m ≡ true → m < 3
mark_below m e = omega (arith, leb-true m 2 e)

pub mark_over : (m : ℕ) → mark_allowed m ≡ false → 3 ≤ m
mark_over m e = omega (arith, leb-false m 2 e)

-- What is given by 1 to 8 leaves a buffer, and the work space, as it was.
module _ (why : Refusal) (n : ℕ) (e : number_of why ≡ n) where
  some : 0 < n
  some = rw e at (number-some why)

  pub work_as_was : n ≤ 8 → (work : List ℕ) → work ≡ cleared n work
  work_as_was h work = let z : n ≡ 0 → ⊥ = λ q. omega (arith, some) in simp (ne_eqb _ _ z, le-ltb _ _ h)
