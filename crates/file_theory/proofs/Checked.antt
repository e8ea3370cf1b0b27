-- Checking a file's parts, in a work space that 8 doesn't refuse.
use mathlib.Core.Path.{◌≡◌, refl, sym, ◌∙◌}
use mathlib.Core.Logic.{◌↔◌, ◌⊎◌, inl, inr, ⊎_elim}
use mathlib.Core.Bool.{Bool, true, false, not, cond}
use mathlib.Core.Option.{none, some}
use mathlib.Core.List.{List, [], ◌∷◌, ◌++◌}
use Prim.Native.Nat.{ℕ, zero, suc, ◌≤◌, ◌<◌}
use native.Mathlib.Omega.{arith}
use lib.Dec.{ltb}
use lib.ListN.{length, replicate, length-replicate}
use borrow.Author.Tests.{le-ltb}
use Rattle.pictures.specs.Refusals.{◌when◌, refusal}
use Rattle.pictures.proofs.Rules.{served-first, refused-first, refusal-most}
use Rattle.map_theory.specs.Judged.{every, numbers, connected, found}
use Rattle.text_theory.specs.Files.{Parts, parse}
use Rattle.pictures.specs.Pictures.{work_bytes}
use Rattle.file_theory.specs.Contents.{choose_of, near_of}
use Rattle.file_theory.specs.Rules.{part_rules, judged_rules, work_rule, check_rules}

-- Checking parts, in a work space of `work` bytes.
abbrev pub checked : Parts → ℕ → ℕ
checked p work = refusal (part_rules p ++ (work_rule p.head.size work ∷ judged_rules p))

pub check_some : (f : List ℕ) (p : Parts) (work : ℕ) → parse f ≡ some p → refusal (check_rules f work) ≡ checked p work
check_some f p work e = rw e

pub check_none : (f : List ℕ) (work : ℕ) → parse f ≡ none → refusal (check_rules f work) ≡ 1
check_none f work e = rw e

-- What 2 to 6 refuse is refused so in each space; what they don't is left to 8 and to the map.
pub checked_refused : (p : Parts) (work : ℕ) → 0 < refusal (part_rules p) → (0 < checked p work) × (checked p work ≤ 6)
checked_refused p work l =
    let e = refused-first (part_rules p) (work_rule p.head.size work ∷ judged_rules p) l in
    (omega (arith, e), omega (arith, e, refusal-most 6 (part_rules p) refl))

pub checked-served : (p : Parts) (work : ℕ) → refusal (part_rules p) ≡ 0 → checked p work ≡ cond (ltb work (work_bytes p.head.size)) 8 (refusal (judged_rules p))
checked-served p work z = served-first (part_rules p) (work_rule p.head.size work ∷ judged_rules p) refl z

-- So in a space that 8 doesn't refuse the map decides.
pub checked_work : (p : Parts) (work : ℕ) → refusal (part_rules p) ≡ 0 → (checked p work ≡ 8 → ⊥) → checked p work ≡ refusal (judged_rules p)
checked_work p work z n = checked-served p work z ∙ go (ltb work (work_bytes p.head.size)) refl
  where
    go : (t : Bool) → ltb work (work_bytes p.head.size) ≡ t → cond t 8 (refusal (judged_rules p)) ≡ refusal (judged_rules p)
    go true e = absurd (n (checked-served p work z ∙ rw e))
    go false e = refl

-- There is such a space.
abbrev pub room : Parts → List ℕ
room p = replicate (work_bytes p.head.size) 0

room_enough : (p : Parts) → ltb (length (room p)) (work_bytes p.head.size) ≡ false
room_enough p = le-ltb (length (room p)) (work_bytes p.head.size) (omega (arith, length-replicate {A = ℕ} (work_bytes p.head.size) 0))

-- The tests of a map.
abbrev numbered : Parts → Bool
numbered p = every (numbers p.head.depth) p.maps

abbrev joined : Parts → Bool
joined p = connected (near_of p.head) p.head.size.width p.head.depth p.maps

abbrev chosen : Parts → Bool
chosen p = found (choose_of p.head) p.head.size.width p.head.size.height p.head.depth p.rows p.maps

-- A map is refused by 9 and more alone, and by 9 just where a row isn't a numbering.
pub judged_high : (p : Parts) → refusal (judged_rules p) ≡ 8 → ⊥
judged_high p e = go (not (numbered p)) (not (joined p)) (not (chosen p)) e
  where
    go : (a b c : Bool) → refusal (9 when a ∷ 10 when b ∷ 11 when c ∷ []) ≡ 8 → ⊥
    go true b c e = omega arith
    go false true c e = omega arith
    go false false true e = omega arith
    go false false false e = omega arith

pub judged-numbered : (p : Parts) → ((refusal (judged_rules p) ≡ 0) ⊎ (9 < refusal (judged_rules p))) ↔ (every (numbers p.head.depth) p.maps ≡ true)
judged-numbered p = (there (numbered p) (not (joined p)) (not (chosen p)), back (numbered p) (not (joined p)) (not (chosen p)))
  where
    there : (a b c : Bool) → (cond (not a) 9 (refusal (10 when b ∷ 11 when c ∷ [])) ≡ 0) ⊎ (9 < cond (not a) 9 (refusal (10 when b ∷ 11 when c ∷ []))) → a ≡ true
    there true b c h = refl
    there false b c (inl h) = absurd (omega arith)
    there false b c (inr h) = absurd (omega arith)

    back : (a b c : Bool) → a ≡ true → (cond (not a) 9 (refusal (10 when b ∷ 11 when c ∷ [])) ≡ 0) ⊎ (9 < cond (not a) 9 (refusal (10 when b ∷ 11 when c ∷ [])))
    back true true c e = inr (omega arith)
    back true false true e = inr (omega arith)
    back true false false e = inl refl
    back false b c e = let z : ◌≡◌ {A = ℕ} 0 1 = cc in absurd (omega arith)

pub zero_or : (n : ℕ) → (n ≡ 0) ⊎ (0 < n)
zero_or zero = inl refl
zero_or (suc n) = inr (omega arith)

pub room-not : (p : Parts) → checked p (length (room p)) ≡ 8 → ⊥
room-not p e = ⊎_elim served (λ l. omega (arith, e, (checked_refused p (length (room p)) l).1)) (zero_or (refusal (part_rules p)))
  where
    served : refusal (part_rules p) ≡ 0 → ⊥
    served z =
        let q : checked p (length (room p)) ≡ refusal (judged_rules p) = checked-served p (length (room p)) z ∙ rw (room_enough p) in
        judged_high p (sym q ∙ e)
