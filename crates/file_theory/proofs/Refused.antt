-- Every other operation refuses what checking refuses, and of an accepted file nothing but a space or a width is refused.
use mathlib.Core.Path.{◌≡◌, refl, ◌∙◌}
use mathlib.Core.Logic.{◌⊎◌, inl, inr, ⊎_elim}
use mathlib.Core.Bool.{Bool, true, false, not, cond}
use mathlib.Core.Option.{Option, none, some}
use mathlib.Core.List.{List, [], ◌∷◌, ◌++◌}
use Prim.Native.Nat.{ℕ, ◌*◌, ◌<◌}
use native.Mathlib.Omega.{arith}
use lib.Dec.{ltb}
use lib.ListN.{replicate, length-replicate}
use Rattle.pictures.specs.Refusals.{Rule, ◌when◌, refusal}
use Rattle.pictures.specs.Pictures.{pixel_bytes, picture_bytes, pixels}
use Rattle.pictures.proofs.Rules.{positive, served-first, served-both, passed}
use Rattle.map_theory.specs.Widths.{offered}
use Rattle.text_theory.specs.Files.{Parts, parse}
use Rattle.file_theory.specs.Rules.{part_rules, judged_rules, work_rule, check_rules, read_rules, show_rules}
use Rattle.file_theory.specs.Shows.{Accepted, offers}
use Rattle.file_theory.specs.Demands.{AcceptedParts}
use Rattle.file_theory.proofs.Checked.{checked, check_some, zero_or}
use Rattle.file_theory.proofs.Accepting.{accepted-parts}

-- An operation on parts, whose own rules stand after those of the parts and before the others.
abbrev operated : Parts → List Rule → ℕ → ℕ
operated p own work = refusal (part_rules p ++ (own ++ (work_rule p.head.size work ∷ judged_rules p)))

-- Where it is served, so is checking in the same work space.
operated-checked : (p : Parts) (own : List Rule) (work : ℕ) → positive own ≡ true → operated p own work ≡ 0 → checked p work ≡ 0
operated-checked p own work t e =
    let last : List Rule = work_rule p.head.size work ∷ judged_rules p in
    let a = served-both (part_rules p) (own ++ last) refl e in
    served-first (part_rules p) last refl a.0 ∙ (served-both own last t a.1).1

-- The own rules of showing, and of reading.
abbrev show_own : Parts → ℕ → ℕ → List Rule
show_own p v out =
    7 when not (offered p.head.size.width p.head.depth p.head.growth v)
    ∷ 8 when ltb out (p.head.size.height * (v * pixel_bytes p.head.size.kind))
    ∷ []

abbrev read_own : Parts → ℕ → ℕ → List Rule
read_own p picture map = 8 when ltb picture (picture_bytes p.head.size) ∷ 8 when ltb map (pixels p.head.size) ∷ []

pub show_checked : (f : List ℕ) (v out work : ℕ) → refusal (show_rules f v out work) ≡ 0 → refusal (check_rules f work) ≡ 0
show_checked f v out work h = go (parse f) refl
  where
    go : (o : Option Parts) → parse f ≡ o → refusal (check_rules f work) ≡ 0
    go none e = let z : ◌≡◌ {A = ℕ} 1 0 = rw e at h in absurd (omega arith)
    go (some p) e = check_some f p work e ∙ operated-checked p (show_own p v out) work refl (rw e at h)

pub read-checked : (f : List ℕ) (picture map work : ℕ) → refusal (read_rules f picture map work) ≡ 0 → refusal (check_rules f work) ≡ 0
read-checked f picture map work h = go (parse f) refl
  where
    go : (o : Option Parts) → parse f ≡ o → refusal (check_rules f work) ≡ 0
    go none e = let z : ◌≡◌ {A = ℕ} 1 0 = rw e at h in absurd (omega arith)
    go (some p) e = check_some f p work e ∙ operated-checked p (read_own p picture map) work refl (rw e at h)

-- What is checked with success in one work space is accepted in each.
pub checked-accepted : (f : List ℕ) (work : ℕ) → refusal (check_rules f work) ≡ 0 → Accepted f
checked-accepted f work h = (accepted-parts f).1 (go (parse f) refl)
  where
    go : (o : Option Parts) → parse f ≡ o → AcceptedParts f
    go none e = let z : ◌≡◌ {A = ℕ} 1 0 = rw e at h in absurd (omega arith)
    go (some p) e =
        let b = served-both (part_rules p) (work_rule p.head.size work ∷ judged_rules p) refl (rw e at h) in
        record { parts = p; parsed = e; shaped = b.0; judged = (passed (ltb work (32 * pixels p.head.size)) 7 (refusal (judged_rules p)) b.1).1 }

pub accepted_work : (f : List ℕ) → Accepted f → (work : ℕ) → (refusal (check_rules f work) ≡ 8 → ⊥) → refusal (check_rules f work) ≡ 0
accepted_work f a work n =
    let e = length-replicate {A = ℕ} work 0 in
    rw e at (a (replicate work 0) (λ q. n (rw e at q)))

-- "Every other operation on a file refuses what checking refuses": what it refuses by another number than 8, in whatever
-- spaces they are asked for it.
pub refused_others : (f : List ℕ) (work : ℕ) → 0 < refusal (check_rules f work) → (refusal (check_rules f work) ≡ 8 → ⊥)
    → ((v out other : ℕ) → 0 < refusal (show_rules f v out other)) × ((picture map other : ℕ) → 0 < refusal (read_rules f picture map other))
refused_others f work l n = (
  λ v out other. some (λ z. checked-accepted f other (show_checked f v out other z)),
  λ picture map other. some (λ z. checked-accepted f other (read-checked f picture map other z)),
)
  where
    some : {r : ℕ} → (r ≡ 0 → Accepted f) → 0 < r
    some {r} h = ⊎_elim (λ z. absurd (omega (arith, l, accepted_work f (h z) work n))) (λ k. k) (zero_or r)

-- A rule of 8 more.
eight : (t : Bool) {n : ℕ} → (n ≡ 0) ⊎ (n ≡ 8) → (cond t 8 n ≡ 0) ⊎ (cond t 8 n ≡ 8)
eight true h = inr refl
eight false h = h

-- An accepted file at an offered width: shown, or refused by 8.
module _ (f : List ℕ) (a : Accepted f) where
  parts : AcceptedParts f
  parts = (accepted-parts f).0 a

  pub accepted-shows : (v : ℕ) → offers f v ≡ true → (out work : ℕ) → (refusal (show_rules f v out work) ≡ 0) ⊎ (refusal (show_rules f v out work) ≡ 8)
  unfolding offers
  accepted-shows v o out work =
      let p : Parts = parts.parts in
      let w : offered p.head.size.width p.head.depth p.head.growth v ≡ true = rw parts.parsed at o in
      rw parts.parsed
      (rw (served-first (part_rules p) (show_own p v out ++ (work_rule p.head.size work ∷ judged_rules p)) refl parts.shaped)
      (rw (w, parts.judged) (eight (ltb out (p.head.size.height * (v * pixel_bytes p.head.size.kind))) (eight (ltb work (32 * pixels p.head.size)) (inl refl)))))

  -- at another width: refused by 7;
  pub accepted_wanted : (v : ℕ) → offers f v ≡ false → (out work : ℕ) → refusal (show_rules f v out work) ≡ 7
  unfolding offers
  accepted_wanted v o out work =
      let p : Parts = parts.parts in
      let w : offered p.head.size.width p.head.depth p.head.growth v ≡ false = rw parts.parsed at o in
      rw parts.parsed
      (served-first (part_rules p) (show_own p v out ++ (work_rule p.head.size work ∷ judged_rules p)) refl parts.shaped ∙ rw w)

  -- and read: given, or refused by 8.
  pub accepted_reads : (picture map work : ℕ) → (refusal (read_rules f picture map work) ≡ 0) ⊎ (refusal (read_rules f picture map work) ≡ 8)
  accepted_reads picture map work =
      let p : Parts = parts.parts in
      rw parts.parsed
      (rw (served-first (part_rules p) (read_own p picture map ++ (work_rule p.head.size work ∷ judged_rules p)) refl parts.shaped)
      (rw parts.judged (eight (ltb picture (picture_bytes p.head.size)) (eight (ltb map (pixels p.head.size)) (eight (ltb work (32 * pixels p.head.size)) (inl refl))))))
