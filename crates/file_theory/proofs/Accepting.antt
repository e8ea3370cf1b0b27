-- Which files are accepted: those that are built from an allowed picture and range, and no others.
use mathlib.Core.Path.{◌≡◌, refl, sym, ap, ◌∙◌}
use mathlib.Core.Logic.{◌↔◌}
use mathlib.Core.Option.{Option, none, some, some-injective}
use mathlib.Core.List.{List, [], ◌∷◌}
use Prim.Native.Nat.{ℕ, ◌*◌}
use native.Mathlib.Omega.{arith}
use lib.Dec.{ltb}
use lib.ListN.{length}
use Rattle.pictures.specs.Refusals.{refusal}
use Rattle.pictures.proofs.Rules.{served-both, passed}
use Rattle.map_theory.proofs.Judged.{judged-map}
use Rattle.map_theory.proofs.Shown.{allowed_is}
use Rattle.text_theory.specs.Files.{Parts, text, parse}
use Rattle.text_theory.proofs.Files.{parse-text, parse-sound}
use Rattle.pictures.specs.Pictures.{pixels}
use Rattle.file_theory.specs.Contents.{choose_of, parts_of, file_of}
use Rattle.file_theory.proofs.Heads.{head_chooses}
use Rattle.file_theory.specs.Rules.{part_rules, judged_rules, work_rule}
use Rattle.file_theory.specs.Shows.{Accepted}
use Rattle.file_theory.specs.Demands.{AcceptedParts, Built, Shaped}
use Rattle.file_theory.proofs.Checked.{checked, check_some, check_none, checked_work, room, room-not}
use Rattle.file_theory.proofs.Shaped.{shaped_is, shaped_picture, built_shaped, built_within}

-- Accepted is: the text has its form, and neither the parts nor the map are refused.
pub accepted-parts : (f : List ℕ) → Accepted f ↔ AcceptedParts f
accepted-parts f = (there, back)
  where
    there : Accepted f → AcceptedParts f
    there a = go (parse f) refl
      where
        go : (o : Option Parts) → parse f ≡ o → AcceptedParts f
        go none e =
            let c = check_none f (length {A = ℕ} []) e in
            absurd (omega (arith, c, a [] (λ q. omega (arith, c, q))))
        go (some p) e =
            let c = check_some f p (length (room p)) e in
            let z : checked p (length (room p)) ≡ 0 = sym c ∙ a (room p) (λ q. room-not p (sym c ∙ q)) in
            let b = served-both (part_rules p) (work_rule p.head.size (length (room p)) ∷ judged_rules p) refl z in
            record { parts = p; parsed = e; shaped = b.0; judged = (passed (ltb (length (room p)) (32 * pixels p.head.size)) 7 (refusal (judged_rules p)) b.1).1 }

    back : AcceptedParts f → Accepted f
    back r work n =
        let c = check_some f r.parts (length work) r.parsed in
        c ∙ checked_work r.parts (length work) r.shaped (λ q. n (c ∙ q)) ∙ r.judged

-- The same of parts that are known.
pub accepted_shaped : (f : List ℕ) (p : Parts) → parse f ≡ some p → Accepted f → refusal (part_rules p) ≡ 0
accepted_shaped f p e a =
    let r = (accepted-parts f).0 a in
    let q : r.parts ≡ p = some-injective r.parts p (sym r.parsed ∙ e) in
    rw q at r.shaped

pub accepted-judged : (f : List ℕ) (p : Parts) → parse f ≡ some p → Accepted f → refusal (judged_rules p) ≡ 0
accepted-judged f p e a =
    let r = (accepted-parts f).0 a in
    let q : r.parts ≡ p = some-injective r.parts p (sym r.parsed ∙ e) in
    rw q at r.judged

-- The map of parts that are shaped is not refused just where it is the picture's map.
pub judged_built : (p : Parts) → Shaped p → (refusal (judged_rules p) ≡ 0) ↔ (p.maps ≡ (parts_of p.head p.rows).maps)
judged_built p s =
    let d = ((allowed_is p.head.size.width p.head.depth p.head.growth).0 s.range).0 in
    judged-map (choose_of p.head) (head_chooses p.head) p.head.size.width p.head.size.height p.head.depth p.rows p.maps s.rows s.maps (omega arith)

-- Accepted are just the files that are built from an allowed picture and an allowed range.
pub accepted_built : (f : List ℕ) → Accepted f ↔ Built f
unfolding file_of
accepted_built f = (λ a. there ((accepted-parts f).0 a), λ b. (accepted-parts f).1 (back b))
  where
    there : AcceptedParts f → Built f
    there r =
        let p : Parts = r.parts in
        let i = parse-sound f p r.parsed in
        let s : Shaped p = (shaped_is p).0 r.shaped in
        let e : p.maps ≡ (parts_of p.head p.rows).maps = (judged_built p s).0 r.judged in
        let q : p ≡ parts_of p.head p.rows = λ j. record { head = p.head; rows = p.rows; maps = e j } in
        record { head = p.head; rows = p.rows; picture = shaped_picture p i.1 s; range = s.range; is = sym i.0 ∙ ap text q }

    back : Built f → AcceptedParts f
    back b =
        let p : Parts = parts_of b.head b.rows in
        let s : Shaped p = built_shaped b.head b.rows b.picture b.range in
        record {
          parts = p;
          parsed = ap parse b.is ∙ parse-text p (built_within b.head b.rows b.picture b.range);
          shaped = (shaped_is p).1 s;
          judged = (judged_built p s).1 refl;
        }
