-- What `fit` shows of what `seams` wrote is the picture carved.
use mathlib.Core.Path.{◌≡◌, refl, ◌∙◌}
use mathlib.Core.Logic.{◌⊎◌, inl, inr}
use mathlib.Core.Bool.{Bool, true, false, not}
use mathlib.Core.Option.{some}
use mathlib.Core.List.{List, [], ◌∷◌, ◌++◌}
use Prim.Native.Nat.{ℕ, ◌+◌, ◌-◌, ◌/◌, ◌≤◌, ◌<◌}
use native.Mathlib.Omega.{arith}
use lib.Dec.{leb}
use lib.ListN.{length, length-append}
use borrow.Author.Tests.{le-ltb, leb-true, leb-false, le-leb}
use Rattle.pictures.specs.Numbers.{largest_number}
use Rattle.pictures.specs.Limits.{most_side}
use Rattle.pictures.specs.declared.sizes.Size.{Size}
use Rattle.pictures.specs.Refusals.{Rule, ◌when◌, refusal}
use Rattle.pictures.specs.Pictures.{size_rules, picture, pixels}
use Rattle.pictures.proofs.Rules.{served-first}
use Rattle.pictures.proofs.Limits.{Sized, sized_is}
use Rattle.pictures.proofs.Buffers.{bytes-picture}
use Rattle.file_theory.proofs.Lent.{are_bytes}
use Rattle.map_theory.specs.Widths.{offered}
use Rattle.map_theory.proofs.Shown.{offered_is}
use Rattle.text_theory.specs.Decimal.{digits}
use Rattle.text_theory.specs.Files.{Parts, line_end, parse, All}
use Rattle.file_theory.specs.Contents.{parts_of, file_of}
use Rattle.file_theory.specs.Rules.{part_rules, judged_rules}
use Rattle.file_theory.specs.Shows.{Accepted, sized, shows}
use Rattle.file_theory.proofs.Accepting.{accepted_shaped, accepted-judged}
use Rattle.file_theory.proofs.Demands.{shows-cut, shows-grown}
use Rattle.program_theory.specs.Netpbm.{header_text, netpbm}
use Rattle.program_theory.specs.Programs.{most_input, held_pixels, pixels_rule, refused_text, written, full_range, seams, fitted_rules, drawn_text, fit, carved_rows, carved}
use Rattle.program_theory.proofs.Header.{width_back}
use Rattle.program_theory.proofs.Lengths.{number-most, file-most}
use Rattle.program_theory.proofs.Files.{short_input, full_accepted, full_parsed, seams-served}

-- Depth m - 1 and growth m / 2 offer the widths 1 to m + m / 2, and no others.
full_offered : (m v : ℕ) → 0 < m → 1 ≤ v → v ≤ m + m / 2 → offered m (m - 1) (m / 2) v ≡ true
full_offered m v l a b = (offered_is m (m - 1) (m / 2) v).1 (omega arith, b)

full_others : (m v : ℕ) → 0 < m → (v ≡ 0) ⊎ (m + m / 2 < v) → offered m (m - 1) (m / 2) v ≡ false
full_others m v l h = go (offered m (m - 1) (m / 2) v) refl h
  where
    go : (t : Bool) → offered m (m - 1) (m / 2) v ≡ t → (v ≡ 0) ⊎ (m + m / 2 < v) → t ≡ false
    go true e (inl a) = absurd (omega (arith, ((offered_is m (m - 1) (m / 2) v).0 e).0))
    go true e (inr a) = absurd (omega (arith, ((offered_is m (m - 1) (m / 2) v).0 e).1))
    go false e h = refl

-- What `fit` writes for a width and a file.
pub fit-read : (v : ℕ) → v ≤ largest_number → (f : List ℕ) → length f ≤ 65530 → fit (digits v ++ (line_end ++ f)) ≡ written (refusal (fitted_rules v f)) (drawn_text (shows f v))
unfolding fit line_end
fit-read v l f s =
    let input : List ℕ = digits v ++ (line_end ++ f) in
    let n : length input ≤ most_input = rw length-append (omega (arith, number-most v l)) in
    rw (width_back v l f) (short_input input (refusal (fitted_rules v f)) (drawn_text (shows f v)) n)

-- A picture of at most 1,024 pixels, and its file.
module _ (z : Size) (b : List ℕ) (small : All (λ (a : ℕ). a < 256) b) (fine : refusal (size_rules z (length b)) ≡ 0) (few : pixels z ≤ held_pixels) where
  abbrev file : List ℕ
  file = file_of (full_range z) (picture z b)

  abbrev parts : Parts
  parts = parts_of (full_range z) (picture z b)

  parsed : parse file ≡ some parts
  parsed = full_parsed z b small fine

  accepted : Accepted file
  accepted = full_accepted z b small fine

  sizes : Sized z (length b)
  sizes = sized_is z (length b) fine

  -- What is refused of it: other widths than those offered, and of these too many pixels written.
  file_rules_lem : (v : ℕ) → refusal (fitted_rules v file) ≡ refusal (7 when not (offered z.width (z.width - 1) (z.width / 2) v) ∷ pixels_rule (sized v z) ∷ [])
  file_rules_lem v =
      let o : Rule = 7 when not (offered z.width (z.width - 1) (z.width / 2) v) in
      rw parsed
      (served-first (part_rules parts) (o ∷ pixels_rule z ∷ pixels_rule (sized v z) ∷ judged_rules parts) refl (accepted_shaped file parts parsed accepted)
      ∙ rw (le-ltb held_pixels (pixels z) few, accepted-judged file parts parsed accepted))

  -- What it shows.
  shows-carved : (v : ℕ) → 1 ≤ v → v ≤ z.width + z.width / 2 → shows file v ≡ some (carved v z (picture z b))
  unfolding carved_rows
  shows-carved v l m = go (leb v z.width) refl
    where
      go : (t : Bool) → leb v z.width ≡ t → shows file v ≡ some (carved v z (picture z b))
      go true e =
          let n = leb-true v z.width e in
          let back : z.width - (z.width - v) ≡ v = omega arith in
          rw e (rw back at (shows-cut file parts accepted parsed (z.width - v) (omega arith)))
      go false e =
          let n = leb-false v z.width e in
          let back : z.width + (v - z.width) ≡ v = omega arith in
          rw e (rw back at (shows-grown file parts accepted parsed (v - z.width) (omega arith) (omega arith)))

  -- What `fit` writes of it.
  fit-file : (v : ℕ) → v ≤ largest_number → fit (digits v ++ (line_end ++ seams (header_text z ++ b))) ≡ written (refusal (fitted_rules v file)) (drawn_text (shows file v))
  fit-file v l = rw (seams-served z b fine few) (fit-read v l file (omega (arith, file-most z b small fine few)))

  -- At each width from 1 to m + m / 2 the picture carved to it, where that has at most 1,024 pixels.
  pub fit-seams : (v : ℕ) → 1 ≤ v → v ≤ z.width + z.width / 2
      → fit (digits v ++ (line_end ++ seams (header_text z ++ b))) ≡ written (refusal (pixels_rule (sized v z) ∷ [])) (netpbm (carved v z (picture z b)))
  fit-seams v l m =
      let w : z.width ≤ most_side = sizes.width_small in
      fit-file v (omega arith) ∙ rw (file_rules_lem v, full_offered z.width v sizes.width_some l m, shows-carved v l m)

  -- At any other width the refusal 7.
  pub fit_others : (v : ℕ) → v ≤ largest_number → (v ≡ 0) ⊎ (z.width + z.width / 2 < v) → fit (digits v ++ (line_end ++ seams (header_text z ++ b))) ≡ refused_text 7
  fit_others v l o = fit-file v l ∙ rw (file_rules_lem v, full_others z.width v sizes.width_some o)

  -- At the original width the picture as it was read.
  pub fit-original : fit (digits z.width ++ (line_end ++ seams (header_text z ++ b))) ≡ header_text z ++ b
  unfolding netpbm carved_rows
  fit-original =
      let none : z.width - z.width ≡ 0 = omega arith in
      fit-seams z.width sizes.width_some (omega arith)
      ∙ rw (le-ltb held_pixels (pixels z) few, le-leb z.width z.width (omega arith), none, bytes-picture z b sizes.length_is (are_bytes b small))
