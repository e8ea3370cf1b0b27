-- What a file's head says of its seams and of the mean of two pixels, and what holds of it. Only these laws, and the one that
-- the seam chosen is the cheapest (`WellFormed`), know which choice and which mean these are.
use mathlib.Core.Path.{◌≡◌, ap}
use mathlib.Core.List.{List, [], ◌∷◌, zip_with}
use Prim.Native.Nat.{ℕ, zero, suc, ◌+◌, ◌≤◌}
use native.Mathlib.Nat.{div-add-mod'}
use native.Mathlib.Omega.{arith}
use lib.ListN.{length}
use Rattle.pictures.specs.declared.sizes.Kind.{Kind}
use Rattle.pictures.specs.Pictures.{channels_of, largest_sample}
use Rattle.seam_theory.specs.Choices.{Chooses}
use Rattle.seam_theory.proofs.Choosing.{seam_chooses}
use Rattle.map_theory.specs.Widths.{middle, average}
use Rattle.text_theory.specs.declared.Head.{Head}
use Rattle.text_theory.specs.Files.{All, Pixel}
use Rattle.file_theory.specs.Contents.{choose_of, near_of, mean_of}

-- The seam chosen has a column for each row and is connected.
pub head_chooses : (h : Head) → Chooses (near_of h) (choose_of h)
head_chooses h = seam_chooses h.method

-- The mean of two pixels is a pixel.
average-length : (n : ℕ) (p q : List ℕ) → length p ≡ n → length q ≡ n → length (average p q) ≡ n
unfolding average zip_with
average-length n [] q e f = e
average-length n (a ∷ p) [] e f = f
average-length zero (a ∷ p) (b ∷ q) e f = absurd (omega arith)
average-length (suc n) (a ∷ p) (b ∷ q) e f = ap suc (average-length n p q (omega arith) (omega arith))

average_small : (m : ℕ) (p q : List ℕ) → All (λ (a : ℕ). a ≤ m) p → All (λ (a : ℕ). a ≤ m) q → All (λ (a : ℕ). a ≤ m) (average p q)
unfolding middle average zip_with
average_small m [] q h k = tt
average_small m (a ∷ p) [] h k = tt
average_small m (a ∷ p) (b ∷ q) h k =
    let x = h.0 in
    let y = k.0 in
    (omega (arith, x, y, div-add-mod' (a + b) 2), average_small m p q h.1 k.1)

pub mean-pixel : (h : Head) (k : Kind) (p q : List ℕ) → Pixel k p → Pixel k q → Pixel k (mean_of h p q)
mean-pixel h k p q a b = record { count = average-length (channels_of k) p q a.count b.count; small = average_small (largest_sample k) p q a.small b.small }
