-- The file of a picture that the programs hold: building refuses nothing of it.
use mathlib.Core.Path.{◌≡◌, refl, sym, ◌∙◌}
use mathlib.Core.Bool.{not}
use mathlib.Core.List.{List, [], ◌∷◌, ◌++◌}
use Prim.Native.Nat.{ℕ, suc, ◌-◌, ◌*◌, ◌/◌, ◌≤◌, ◌<◌}
use native.Mathlib.Omega.{arith}
use lib.Dec.{ltb}
use lib.ListN.{length, get_or}
use borrow.Author.Tests.{ltb-false, le-ltb}
use Rattle.std.specs.Prelude.{Result}
use Rattle.pictures.specs.declared.sizes.Size.{Size}
use Rattle.pictures.specs.declared.refusals.Refusal.{Refusal}
use Rattle.pictures.specs.Refusals.{◌when◌, refusal}
use Rattle.pictures.specs.Pictures.{size_rules, picture, pixels}
use Rattle.pictures.proofs.Rules.{served-first, served-both, passed}
use Rattle.pictures.proofs.Limits.{Sized, sized_is}
use Rattle.map_theory.specs.Widths.{allowed}
use Rattle.text_theory.specs.Files.{All}
use Rattle.file_theory.specs.Contents.{file_of}
use Rattle.file_theory.specs.Rules.{build_rules, work_rule}
use Rattle.file_build.specs.Building.{BuildGiven}
use Rattle.program_theory.specs.Programs.{held_pixels, pixels_rule, full_range}
use Rattle.program_theory.proofs.Lengths.{file-most}
use Rattle.program_theory.proofs.Files.{full_allowed}
use Rattle.program_netpbm.specs.Outputs.{output_space}
use Rattle.program_filters.specs.Inner.{FileAnswered}

-- Bytes, place by place and all together.
pub all-bytes : (b : List ℕ) → ((i : ℕ) → get_or b i 0 < 256) → All (λ (a : ℕ). a < 256) b
all-bytes [] h = tt
all-bytes (a ∷ b) h = (h 0, all-bytes b (λ i. h (suc i)))

module _ (z : Size) (b : List ℕ) (held : refusal (size_rules z (length b) ++ (pixels_rule z ∷ [])) ≡ 0) where
  parts : (refusal (size_rules z (length b)) ≡ 0) × (refusal (pixels_rule z ∷ []) ≡ 0)
  parts = served-both (size_rules z (length b)) (pixels_rule z ∷ []) refl held

  pub held-sized : Sized z (length b)
  held-sized = sized_is z (length b) parts.0

  held-few : pixels z ≤ held_pixels
  held-few = ltb-false held_pixels (pixels z) (passed (ltb held_pixels (pixels z)) 7 0 parts.1).0

  module _ (small : All (λ (a : ℕ). a < 256) b) (out work : List ℕ) (room : output_space ≤ length out) (work_is : length work ≡ output_space) where
    build-none : refusal (build_rules b (full_range z) (length out) (length work)) ≡ 0
    build-none =
        let long = file-most z b small parts.0 held-few in
        let range = full_allowed z.width held-sized.width_some in
        served-first (size_rules z (length b)) (6 when not (allowed z.width (z.width - 1) (z.width / 2)) ∷ 8 when ltb (length out) (length (file_of (full_range z) (picture z b))) ∷ work_rule z (length work) ∷ []) refl parts.0
        ∙ rw (range, le-ltb (length out) (length (file_of (full_range z) (picture z b))) (omega (arith, room, long)), le-ltb (length work) (32 * pixels z) (omega (arith, work_is, held-few)))

    -- What building gives is the program's answer: building refuses nothing.
    pub file-answered : {answer : Result ℕ Refusal} {out' work' : List ℕ} → BuildGiven b (full_range z) out work answer out' work' → FileAnswered z b out answer out'
    file-answered g = record { number = g.number ∙ build-none ∙ sym held; length_is = g.length_is; out_given = g.out_given }
