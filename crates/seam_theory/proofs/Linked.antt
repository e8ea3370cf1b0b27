-- Lists of columns that are connected, step by step.
use mathlib.Core.Path.{◌≡◌, refl, ap, ◌∙◌}
use mathlib.Core.Bool.{Bool, true, false, ◌&&◌, and-false}
use mathlib.Core.List.{List, [], ◌∷◌}
use Prim.Native.Nat.{ℕ, zero, suc, ◌+◌, ◌<◌}
use native.Mathlib.Omega.{arith}
use lib.ListN.{length, get_or}
use Rattle.grids.proofs.Bools.{both, and_both}
use Rattle.seam_theory.specs.Connected.{linked}

-- The columns of two rows that follow each other pass the test.
pub linked_at : (test : ℕ → ℕ → Bool) (s : List ℕ) (r : ℕ) → r + 1 < length s → linked test s ≡ true → test (get_or s r 0) (get_or s (r + 1) 0) ≡ true
linked_at test [] r l e = absurd (omega arith)
linked_at test (c ∷ []) r l e = absurd (omega arith)
linked_at test (c ∷ d ∷ s) zero l e = (both (test c d) (linked test (d ∷ s)) e).0
linked_at test (c ∷ d ∷ s) (suc r) l e =
    let z : suc r + 1 ≡ suc (r + 1) = omega arith in
    rw z (linked_at test (d ∷ s) r (omega arith) (both (test c d) (linked test (d ∷ s)) e).1)

-- A list of columns is connected where all its steps are, and isn't where one isn't.
pub linked_all : (near : ℕ → ℕ → Bool) (s : List ℕ) → ((i : ℕ) → suc i < length s → near (get_or s i 0) (get_or s (suc i) 0) ≡ true) → linked near s ≡ true
linked_all near [] h = refl
linked_all near (c ∷ []) h = refl
linked_all near (c ∷ d ∷ s) h = and_both (near c d) (linked near (d ∷ s)) (h 0 (omega arith)) (linked_all near (d ∷ s) (λ i l. h (suc i) (omega arith)))

pub linked_broken : (near : ℕ → ℕ → Bool) (s : List ℕ) (i : ℕ) → suc i < length s → near (get_or s i 0) (get_or s (suc i) 0) ≡ false → linked near s ≡ false
linked_broken near [] i h e = absurd (omega arith)
linked_broken near (c ∷ []) i h e = absurd (omega arith)
linked_broken near (c ∷ d ∷ s) zero h e = ap (◌&& linked near (d ∷ s)) e
linked_broken near (c ∷ d ∷ s) (suc i) h e = ap (near c d &&◌) (linked_broken near (d ∷ s) i (omega arith) e) ∙ and-false (near c d)
