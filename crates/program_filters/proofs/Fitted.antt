-- Which files `fit` shows. Its spaces are just long enough for the most pixels, so showing refuses there what the program
-- refuses.
use mathlib.Core.Path.{◌≡◌, refl}
use mathlib.Core.Bool.{Bool, true, false, not, cond}
use mathlib.Core.Option.{Option, none, some}
use mathlib.Core.List.{List, ◌∷◌, ◌++◌}
use Prim.Native.Nat.{ℕ, ◌*◌, ◌≤◌}
use native.Mathlib.Nat.{mul_assoc}
use native.Mathlib.Omega.{arith}
use lib.Dec.{ltb}
use lib.ListN.{length}
use borrow.Author.Tests.{ltb-true, ltb-false, lt-ltb, le-ltb, not-false}
use Rattle.pictures.specs.declared.sizes.Kind.{Kind}
use Rattle.pictures.specs.declared.sizes.Kind.TheVariants.{Grey, Rgb}
use Rattle.pictures.specs.Refusals.{◌when◌, Rule, refusal}
use Rattle.pictures.specs.Pictures.{pixel_bytes, pixels}
use Rattle.pictures.proofs.Rules.{served-both, passed}
use Rattle.map_theory.specs.Widths.{offered}
use Rattle.text_theory.specs.Files.{Parts, parse}
use Rattle.file_theory.specs.Rules.{part_rules, judged_rules, form_rules, show_rules}
use Rattle.file_theory.specs.Shows.{sized}
use Rattle.file_theory.specs.Demands.{Shaped}
use Rattle.file_theory.proofs.Shaped.{shaped_is}
use Rattle.program_theory.specs.Programs.{held_pixels, pixels_rule, fitted_rules}
use Rattle.program_filters.specs.Inner.{DrawNeeded}

-- The spaces are just long enough for the most pixels.
bytes-over : (k : Kind) (n : ℕ) → ltb (held_pixels * pixel_bytes k) (n * pixel_bytes k) ≡ ltb held_pixels n
unfolding pixel_bytes
bytes-over k n = go k (ltb held_pixels n) refl
  where
    go : (k : Kind) (t : Bool) → ltb held_pixels n ≡ t → ltb (held_pixels * pixel_bytes k) (n * pixel_bytes k) ≡ t
    go Grey true e = lt-ltb (held_pixels * 1) (n * 1) (omega (arith, ltb-true held_pixels n e))
    go Grey false e = le-ltb (held_pixels * 1) (n * 1) (omega (arith, ltb-false held_pixels n e))
    go Rgb true e = lt-ltb (held_pixels * 3) (n * 3) (omega (arith, ltb-true held_pixels n e))
    go Rgb false e = le-ltb (held_pixels * 3) (n * 3) (omega (arith, ltb-false held_pixels n e))

work_over : (n : ℕ) → ltb (32 * held_pixels) (32 * n) ≡ ltb held_pixels n
work_over n = go (ltb held_pixels n) refl
  where
    go : (t : Bool) → ltb held_pixels n ≡ t → ltb (32 * held_pixels) (32 * n) ≡ t
    go true e = lt-ltb (32 * held_pixels) (32 * n) (omega (arith, ltb-true held_pixels n e))
    go false e = le-ltb (32 * held_pixels) (32 * n) (omega (arith, ltb-false held_pixels n e))

-- Two rules of one number.
either_order : (a b : Bool) (n m : ℕ) → cond a n (cond b n m) ≡ cond b n (cond a n m)
either_order true true n m = refl
either_order true false n m = refl
either_order false true n m = refl
either_order false false n m = refl

-- Showing in these spaces refuses what the program refuses.
pub same_number : (file : List ℕ) (v : ℕ) (picture out work : List ℕ) → DrawNeeded file picture out → length work ≡ 32 * held_pixels
    → refusal (show_rules file v (length picture) (length work)) ≡ refusal (fitted_rules v file)
same_number file v picture out work needed work_is = go (parse file) refl
  where
    go : (o : Option Parts) → parse file ≡ o → refusal (show_rules file v (length picture) (length work)) ≡ refusal (fitted_rules v file)
    go none e = rw e
    go (some p) e =
        let k : Kind = p.head.size.kind in
        let n : ℕ = p.head.size.height in
        let written : ltb (length picture) (n * (v * pixel_bytes k)) ≡ ltb held_pixels (n * v) = rw (needed.held p e, ← mul_assoc n v (pixel_bytes k)) (bytes-over k (n * v)) in
        let read : ltb (length work) (32 * pixels p.head.size) ≡ ltb held_pixels (pixels p.head.size) = rw work_is (work_over (pixels p.head.size)) in
        rw (e, written, read, either_order (ltb held_pixels (n * v)) (ltb held_pixels (pixels p.head.size)) 8 (refusal (judged_rules p)))

-- A file that is shown: its parts, and what 7 and 8 then don't say.
pub record Fitted (file : List ℕ) (v : ℕ) : Type 0 where
  pub parts : Parts
  pub parsed : parse file ≡ some parts
  pub shaped : Shaped parts
  pub offers_it : offered parts.head.size.width parts.head.depth parts.head.growth v ≡ true
  pub few : parts.head.size.height * v ≤ held_pixels

pub fitted : (file : List ℕ) (v : ℕ) → refusal (fitted_rules v file) ≡ 0 → Fitted file v
fitted file v z = go (parse file) refl z
  where
    go : (o : Option Parts) → parse file ≡ o
        → refusal
        (form_rules
        (λ p. part_rules p
        ++ (7 when not (offered p.head.size.width p.head.depth p.head.growth v) ∷ pixels_rule p.head.size ∷ pixels_rule (sized v p.head.size) ∷ judged_rules p))
        o)
        ≡ 0
        → Fitted file v
    go none e z = absurd (omega arith)
    go (some p) e z =
        let o : Bool = offered p.head.size.width p.head.depth p.head.growth v in
        let last : List Rule = pixels_rule (sized v p.head.size) ∷ judged_rules p in
        let b = served-both (part_rules p) (7 when not o ∷ pixels_rule p.head.size ∷ last) refl z in
        let c = passed (not o) 6 (refusal (pixels_rule p.head.size ∷ last)) b.1 in
        let d = passed (ltb held_pixels (pixels p.head.size)) 7 (refusal last) c.1 in
        let w = passed (ltb held_pixels (p.head.size.height * v)) 7 (refusal (judged_rules p)) d.1 in
        record { parts = p; parsed = e; shaped = (shaped_is p).0 b.0; offers_it = not-false o c.0; few = ltb-false _ _ w.0 }
