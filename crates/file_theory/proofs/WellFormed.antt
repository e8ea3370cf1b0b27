-- A well-formed file is accepted just where its recorded seams are those found.
use mathlib.Core.Path.{◌≡◌, refl, sym, ap, subst, ◌∙◌}
use mathlib.Core.Logic.{◌↔◌, ◌⊎◌, inl, ⊎_elim}
use mathlib.Core.Bool.{true}
use mathlib.Core.Option.{Option, none, some, get_or, some-injective}
use mathlib.Core.List.{List, [], reverse, reverse-reverse}
use Prim.Native.Nat.{ℕ, ◌+◌, ◌-◌, ◌≤◌, ◌<◌}
use native.Mathlib.Omega.{arith}
use lib.ListN.{length}
use Rattle.pictures.specs.Refusals.{refusal}
use Rattle.pictures.specs.Pictures.{Picture}
use Rattle.pictures.proofs.Limits.{sides_are}
use Rattle.map_theory.specs.Judged.{every, numbers, before, recorded}
use Rattle.map_theory.proofs.Tests.{every-each}
use Rattle.map_theory.proofs.Numberings.{numbers_is}
use Rattle.map_theory.proofs.Judged.{judged_is, chosen-only}
use Rattle.map_theory.proofs.Shown.{allowed_is}
use Rattle.energy.specs.declared.methods.Method.{Method}
use Rattle.text_theory.specs.Files.{Parts, parse}
use Rattle.seam_theory.specs.PictureSeams.{seam_up, seam_of}
use Rattle.seam_theory.specs.Chosen.{IsSeam}
use Rattle.seam_theory.proofs.Characterised.{seam_is, seam-some}
use Rattle.file_theory.specs.Contents.{choose_of, near_of}
use Rattle.file_theory.specs.Rules.{part_rules, judged_rules, check_rules}
use Rattle.file_theory.specs.Shows.{Accepted}
use Rattle.file_theory.specs.Demands.{WellFormed, WellFormedParts, Shaped}
use Rattle.file_theory.proofs.Heads.{head_chooses}
use Rattle.file_theory.proofs.Checked.{checked, check_some, check_none, checked_refused, checked_work, room, judged-numbered, zero_or, room-not}
use Rattle.file_theory.proofs.Shaped.{shaped_is}
use Rattle.file_theory.proofs.Accepting.{accepted-parts, accepted-judged, judged_built}

-- Well-formed is the same without 10 and 11.
pub well_formed_parts : (f : List ℕ) → WellFormed f ↔ WellFormedParts f
well_formed_parts f = (there, back)
  where
    there : WellFormed f → WellFormedParts f
    there a = go (parse f) refl
      where
        go : (o : Option Parts) → parse f ≡ o → WellFormedParts f
        go none e =
            let c = check_none f (length {A = ℕ} []) e in
            absurd (⊎_elim (λ z. omega (arith, c, z)) (λ z. omega (arith, c, z)) (a [] (λ q. omega (arith, c, q))))
        go (some p) e = ⊎_elim served refused (zero_or (refusal (part_rules p)))
          where
            c : refusal (check_rules f (length (room p))) ≡ checked p (length (room p))
            c = check_some f p (length (room p)) e

            n : (checked p (length (room p)) ≡ 0) ⊎ (9 < checked p (length (room p)))
            n = rw c at (a (room p) (λ q. room-not p (sym c ∙ q)))

            served : refusal (part_rules p) ≡ 0 → WellFormedParts f
            served z =
                let m : (refusal (judged_rules p) ≡ 0) ⊎ (9 < refusal (judged_rules p)) = rw (checked_work p (length (room p)) z (room-not p)) at n in
                record { parts = p; parsed = e; shaped = z; numbered = (judged-numbered p).0 m }

            refused : 0 < refusal (part_rules p) → WellFormedParts f
            refused l =
                let b = checked_refused p (length (room p)) l in
                absurd (⊎_elim (λ z. omega (arith, z, b.0)) (λ z. omega (arith, z, b.1)) n)

    back : WellFormedParts f → WellFormed f
    back r work n =
        let c = check_some f r.parts (length work) r.parsed in
        rw (c ∙ checked_work r.parts (length work) r.shaped (λ q. n (c ∙ q))) ((judged-numbered r.parts).1 r.numbered)

-- An accepted file is well-formed.
pub accepted_well_formed : (f : List ℕ) → Accepted f → WellFormed f
accepted_well_formed f a work n = inl (a work n)

-- A seam is the one found just where, read from the bottom row upward, it is a connected path, none is cheaper, and each
-- other that costs the same comes after it.
found-cheapest : (how : Method) (w h : ℕ) (p : Picture) (s : List ℕ) → 0 < w → 0 < h → (s ≡ seam_of how w h p) ↔ IsSeam how w h p (reverse s)
unfolding seam_of
found-cheapest how w h p s k l = (there, back)
  where
    there : s ≡ reverse (get_or (seam_up how w h p) []) → IsSeam how w h p (reverse s)
    there e =
        let f = seam-some how w h p k l in
        let d : s ≡ reverse f.0 = e ∙ ap (λ o. reverse (get_or o [])) f.1 in
        subst (IsSeam how w h p) (sym (ap reverse d ∙ reverse-reverse f.0)) f.2

    back : IsSeam how w h p (reverse s) → s ≡ reverse (get_or (seam_up how w h p) [])
    back i = rw ((seam_is how w h p (reverse s)).1 i) (sym (reverse-reverse s))

-- A well-formed file, of width m, height n and depth k.
module _ (f : List ℕ) (p : Parts) (e : parse f ≡ some p) (u : WellFormed f) where
  abbrev m : ℕ
  m = p.head.size.width

  abbrev n : ℕ
  n = p.head.size.height

  abbrev k : ℕ
  k = p.head.depth

  -- Its parts are p, so neither 2 to 6 refuse these nor 9 their map.
  r : WellFormedParts f
  r = (well_formed_parts f).0 u

  q : r.parts ≡ p
  q = some-injective r.parts p (sym r.parsed ∙ e)

  z : refusal (part_rules p) ≡ 0
  z = rw q at r.shaped

  s : Shaped p
  s = (shaped_is p).0 z

  deep : k < m
  deep = ((allowed_is m k p.head.growth).0 s.range).0

  chosen-accepted : ((t : ℕ) → 1 ≤ t → t ≤ k → recorded t p.maps ≡ choose_of p.head (m + 1 - t) n (before t p.rows p.maps)) → Accepted f
  chosen-accepted c =
      let t : every (numbers k) p.maps ≡ true = rw q at r.numbered in
      let j = every-each (numbers k) (λ y. (numbers_is k y).0) s.maps t in
      (accepted-parts f).1
      (record { parts = p; parsed = e; shaped = z; judged = (judged_built p s).1 (chosen-only (choose_of p.head) (head_chooses p.head) m n k p.rows p.maps s.rows s.maps (omega (arith, deep)) j c) })

  -- It is accepted just where each seam that its map records is the one found in the picture then left,
  pub accepted-seams : Accepted f ↔ ((t : ℕ) → 1 ≤ t → t ≤ k → recorded t p.maps ≡ choose_of p.head (m + 1 - t) n (before t p.rows p.maps))
  accepted-seams = (λ a. ((judged_is (near_of p.head) (choose_of p.head) m n k p.rows p.maps s.maps).0 (accepted-judged f p e a)).chosen, chosen-accepted)

  -- that is: for each t from 1 to k the recorded seam t is connected, no connected path through the picture then left is
  -- cheaper, and among equally cheap ones it comes first, read from the bottom row upward.
  pub accepted-cheapest : Accepted f ↔ ((t : ℕ) → 1 ≤ t → t ≤ k → IsSeam p.head.method (m + 1 - t) n (before t p.rows p.maps) (reverse (recorded t p.maps)))
  accepted-cheapest = (
    λ a t l h. (is t h).0 (accepted-seams.0 a t l h),
    λ c. accepted-seams.1 (λ t l h. (is t h).1 (c t l h)),
  )
    where
      is : (t : ℕ) → t ≤ k → (recorded t p.maps ≡ choose_of p.head (m + 1 - t) n (before t p.rows p.maps))
          ↔ IsSeam p.head.method (m + 1 - t) n (before t p.rows p.maps) (reverse (recorded t p.maps))
      is t h = found-cheapest p.head.method (m + 1 - t) n (before t p.rows p.maps) (recorded t p.maps) (omega (arith, deep)) (sides_are p.head.size s.sides).height_some
