-- A picture in a lent buffer is allowed, and the file that is built from it is accepted.
use mathlib.Core.Path.{◌≡◌, refl}
use mathlib.Core.Bool.{Bool, true, not}
use mathlib.Core.List.{List, [], ◌∷◌}
use Prim.Native.Nat.{ℕ, zero, suc, ◌≤◌, ◌<◌}
use native.Mathlib.Omega.{arith}
use lib.Dec.{ltb}
use lib.ListN.{length, get_or, drop}
use borrow.Author.Tests.{not-false}
use Rattle.grids.proofs.Shapes.{each_weaken}
use Rattle.pictures.specs.declared.sizes.Size.{Size}
use Rattle.pictures.specs.Refusals.{Rule, ◌when◌, refusal}
use Rattle.pictures.specs.Pictures.{largest_sample, size_rules, picture}
use Rattle.pictures.proofs.Rules.{served-both, passed}
use Rattle.pictures.proofs.Limits.{sides_served, sized_is}
use Rattle.pictures.proofs.Samples.{AreBytes}
use Rattle.pictures.proofs.Buffers.{picture-pixels}
use Rattle.map_theory.specs.Widths.{allowed}
use Rattle.text_theory.specs.declared.Head.{Head}
use Rattle.text_theory.specs.Files.{All}
use Rattle.file_theory.specs.Contents.{file_of}
use Rattle.file_theory.specs.Rules.{work_rule, build_rules}
use Rattle.file_theory.specs.Shows.{Accepted}
use Rattle.file_theory.specs.Demands.{AllowedPicture, Built}
use Rattle.file_theory.proofs.Accepting.{accepted_built}

module _ {A : Type 0} (P : A → Type 0) where
  pub all_drop : (n : ℕ) (xs : List A) → All P xs → All P (drop n xs)
  all_drop zero xs a = a
  all_drop (suc n) [] a = tt
  all_drop (suc n) (x ∷ xs) a = all_drop n xs a.1

-- A list of bytes, as the code knows what a buffer holds.
pub are_bytes : (b : List ℕ) → All (λ (a : ℕ). a < 256) b → AreBytes b
are_bytes [] a i = omega arith
are_bytes (x ∷ b) a zero = omega (arith, a.0)
are_bytes (x ∷ b) a (suc i) = are_bytes b a.1 i

all_of : (m : ℕ) (xs : List ℕ) → ((i : ℕ) → get_or xs i 0 ≤ m) → All (λ (a : ℕ). a ≤ m) xs
all_of m [] h = tt
all_of m (x ∷ xs) h = (h 0, all_of m xs (λ i. h (suc i)))

-- A buffer of bytes that 2, 3 and 4 don't refuse.
pub lent_allowed : (z : Size) (b : List ℕ) → All (λ (a : ℕ). a < 256) b → refusal (size_rules z (length b)) ≡ 0 → AllowedPicture z (picture z b)
lent_allowed z b a e = record {
  sides = sides_served z (length b) e;
  pixels =
      each_weaken (λ row g. each_weaken (λ px p. record { count = p.0; small = all_of (largest_sample z.kind) px p.1 }) g)
      (picture-pixels z b (sized_is z (length b) e).length_is (are_bytes b a));
}

-- Building from it isn't refused: then neither the picture nor the range is, and what it gives is a file that is built.
module _ (b : List ℕ) (h : Head) (out work : ℕ) (e : refusal (build_rules b h out work) ≡ 0) where
  abbrev ranged : Bool
  ranged = allowed h.size.width h.depth h.growth

  abbrev rooms : List Rule
  rooms = 8 when ltb out (length (file_of h (picture h.size b))) ∷ work_rule h.size work ∷ []

  both : (refusal (size_rules h.size (length b)) ≡ 0) × (refusal (6 when not ranged ∷ rooms) ≡ 0)
  both = served-both (size_rules h.size (length b)) (6 when not ranged ∷ rooms) refl e

  pub lent_sized : refusal (size_rules h.size (length b)) ≡ 0
  lent_sized = both.0

  pub lent_ranged : allowed h.size.width h.depth h.growth ≡ true
  lent_ranged = not-false ranged (passed (not ranged) 5 (refusal rooms) both.1).0

  unfoldable pub lent_built : All (λ (a : ℕ). a < 256) b → Built (file_of h (picture h.size b))
  lent_built small = record {
    head = h;
    rows = picture h.size b;
    picture = lent_allowed h.size b small lent_sized;
    range = lent_ranged;
    is = refl;
  }

-- What building gives where nothing is refused is accepted.
pub build_accepted : (b : List ℕ) (h : Head) (out work : ℕ) → All (λ (a : ℕ). a < 256) b → refusal (build_rules b h out work) ≡ 0 → Accepted (file_of h (picture h.size b))
build_accepted b h out work small e = (accepted_built (file_of h (picture h.size b))).1 (lent_built b h out work e small)
