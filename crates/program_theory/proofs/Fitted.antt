-- What `fit` shows comes from an accepted file, at a width that it offers.
use mathlib.Core.Path.{◌≡◌, refl}
use mathlib.Core.Bool.{Bool, true, not}
use mathlib.Core.Option.{Option, none, some}
use mathlib.Core.List.{List, ◌∷◌}
use Prim.Native.Nat.{ℕ}
use native.Mathlib.Omega.{arith}
use lib.Dec.{ltb}
use lib.ListN.{length}
use borrow.Author.Tests.{not-false}
use Rattle.pictures.specs.Refusals.{Rule, ◌when◌, refusal}
use Rattle.pictures.specs.Pictures.{pixels}
use Rattle.pictures.proofs.Rules.{served-both, passed}
use Rattle.map_theory.specs.Widths.{offered}
use Rattle.text_theory.specs.Files.{Parts, parse}
use Rattle.file_theory.specs.Rules.{part_rules, judged_rules}
use Rattle.file_theory.specs.Shows.{Accepted, offers, sized}
use Rattle.file_theory.proofs.Accepting.{accepted-parts}
use Rattle.program_theory.specs.Programs.{most_input, held_pixels, pixels_rule, fitted_rules, width_rules, width_get, fit_rules}

-- A width and a file that `fit` doesn't refuse.
pub fitted-accepted : (v : ℕ) (f : List ℕ) → refusal (fitted_rules v f) ≡ 0 → Accepted f × (offers f v ≡ true)
unfolding offers
fitted-accepted v f h = go (parse f) refl
  where
    go : (o : Option Parts) → parse f ≡ o → Accepted f × (offers f v ≡ true)
    go none e = let z : ◌≡◌ {A = ℕ} 1 0 = rw e at h in absurd (omega arith)
    go (some p) e =
        let t : Bool = offered p.head.size.width p.head.depth p.head.growth v in
        let rest : List Rule = pixels_rule p.head.size ∷ pixels_rule (sized v p.head.size) ∷ judged_rules p in
        let b = served-both (part_rules p) (7 when not t ∷ rest) refl (rw e at h) in
        let c = passed (not t) 6 (refusal rest) b.1 in
        let d = passed (ltb held_pixels (pixels p.head.size)) 7 (refusal (pixels_rule (sized v p.head.size) ∷ judged_rules p)) c.1 in
        let j = passed (ltb held_pixels (pixels (sized v p.head.size))) 7 (refusal (judged_rules p)) d.1 in
        ((accepted-parts f).1 (record { parts = p; parsed = e; shaped = b.0; judged = j.1 }), rw e (not-false t c.0))

-- "reads a line with a width, then a file, checks it": what isn't refused is a width line and after it an accepted file that
-- offers the width.
pub fit-accepted : (input : List ℕ) → refusal (fit_rules input) ≡ 0 → (r : ℕ × List ℕ) × (width_get input ≡ some r) × Accepted r.1 × (offers r.1 r.0 ≡ true)
fit-accepted input h = go (width_get input) refl
  where
    w : refusal (width_rules (width_get input)) ≡ 0
    w = (passed (ltb most_input (length input)) 7 (refusal (width_rules (width_get input))) h).1

    go : (o : Option (ℕ × List ℕ)) → width_get input ≡ o → (r : ℕ × List ℕ) × (width_get input ≡ some r) × Accepted r.1 × (offers r.1 r.0 ≡ true)
    go none e = let z : ◌≡◌ {A = ℕ} 1 0 = rw e at w in absurd (omega arith)
    go (some r) e =
        let b = fitted-accepted r.0 r.1 (rw e at w) in
        (r, e, b.0, b.1)
