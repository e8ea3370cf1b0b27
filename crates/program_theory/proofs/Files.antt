-- What `seams` writes: for a picture that isn't refused, the file of its full range by `edge`, which is accepted.
use mathlib.Core.Path.{◌≡◌, refl, ◌∙◌}
use mathlib.Core.Bool.{true, cond}
use mathlib.Core.Option.{Option, none, some}
use mathlib.Core.List.{List, [], ◌∷◌, ◌++◌}
use Prim.Native.Nat.{ℕ, ◌-◌, ◌*◌, ◌/◌, ◌≤◌, ◌<◌}
use native.Mathlib.Nat.{mul_assoc, mul-le-mul}
use native.Mathlib.Omega.{arith}
use lib.Dec.{ltb}
use lib.ListN.{length, length-append}
use lib.Seq.{drop_at}
use borrow.Author.Tests.{le-ltb}
use Rattle.pictures.specs.Limits.{most_side}
use Rattle.pictures.specs.declared.sizes.Size.{Size}
use Rattle.pictures.specs.Refusals.{refusal}
use Rattle.pictures.specs.Pictures.{pixel_bytes, size_rules, picture, pixels}
use Rattle.pictures.proofs.Rules.{served-first, served-both, passed}
use Rattle.pictures.proofs.Limits.{sized_is}
use Rattle.energy.specs.declared.methods.EnergyRule.TheVariants.{Edge}
use Rattle.map_theory.specs.Widths.{allowed}
use Rattle.map_theory.proofs.Shown.{allowed_is}
use Rattle.text_theory.specs.Words.{rule_text}
use Rattle.text_theory.specs.Files.{parse, All}
use Rattle.file_theory.specs.Contents.{parts_of, file_of}
use Rattle.file_theory.specs.Shows.{Accepted, energy_word}
use Rattle.file_theory.specs.Demands.{Built}
use Rattle.file_theory.proofs.Accepting.{accepted_built}
use Rattle.file_theory.proofs.Built.{built_parsed, built_word}
use Rattle.file_theory.proofs.Lent.{all_drop, lent_allowed}
use Rattle.program_theory.specs.Netpbm.{header_text, header_get}
use Rattle.program_theory.specs.Programs.{most_input, held_pixels, pixels_rule, written, full_range, picture_rules, file_answer, seams_rules, seams}
use Rattle.program_theory.proofs.Header.{header_back, header_reads}
use Rattle.program_theory.proofs.Lengths.{header_most}

-- For an input that isn't too long, what the other rules say is written.
pub short_input : (input : List ℕ) (n : ℕ) (answer : List ℕ) → length input ≤ most_input → written (cond (ltb most_input (length input)) 8 n) answer ≡ written n answer
short_input input n answer l = rw (le-ltb most_input (length input) l)

-- Depth m - 1 and growth m / 2 are allowed at each width m.
pub full_allowed : (m : ℕ) → 0 < m → allowed m (m - 1) (m / 2) ≡ true
full_allowed m l = (allowed_is m (m - 1) (m / 2)).1 (omega arith, omega arith, omega arith)

-- So the file of a picture that isn't refused, with this range, is built: it is accepted, and its parts are read back.
module _ (z : Size) (b : List ℕ) (small : All (λ (a : ℕ). a < 256) b) (fine : refusal (size_rules z (length b)) ≡ 0) where
  full_built : Built (file_of (full_range z) (picture z b))
  full_built =
      let s = sized_is z (length b) fine in
      record { head = full_range z; rows = picture z b; picture = lent_allowed z b small fine; range = full_allowed z.width s.width_some; is = refl }

  pub full_accepted : Accepted (file_of (full_range z) (picture z b))
  full_accepted = (accepted_built (file_of (full_range z) (picture z b))).1 full_built

  pub full_parsed : parse (file_of (full_range z) (picture z b)) ≡ some (parts_of (full_range z) (picture z b))
  unfolding full_built
  full_parsed = built_parsed full_built

  full_word : energy_word (file_of (full_range z) (picture z b)) ≡ rule_text Edge
  unfolding full_built
  full_word = built_word full_built

-- `seams` writes it, where the picture has at most 1,024 pixels.
pub seams-served : (z : Size) (b : List ℕ) → refusal (size_rules z (length b)) ≡ 0 → pixels z ≤ held_pixels → seams (header_text z ++ b) ≡ file_of (full_range z) (picture z b)
unfolding seams
seams-served z b fine few =
    let s = sized_is z (length b) fine in
    let w : z.width ≤ most_side = s.width_small in
    let h : z.height ≤ most_side = s.height_small in
    let c = pixel_bytes z.kind in
    let m : z.height * z.width * c ≤ held_pixels * 6 = mul-le-mul few s.pixel_most in
    let l : length (header_text z ++ b) ≤ most_input =
    rw length-append (omega (arith, header_most z (omega arith) h, s.length_is, mul_assoc z.height z.width c, m)) in
    let r : refusal (picture_rules (some (z, b))) ≡ 0 =
    served-first (size_rules z (length b)) (pixels_rule z ∷ []) refl fine ∙ rw (le-ltb held_pixels (pixels z) few) in
    rw (header_back z (omega arith) (omega arith) b)
    (short_input (header_text z ++ b) (refusal (picture_rules (some (z, b)))) (file_answer (some (z, b))) l ∙ rw r)

-- What holds of each such file holds of what it writes where it refuses nothing:
seams-holds : (P : List ℕ → Type 0)
    → ((z : Size) (b : List ℕ) → All (λ (a : ℕ). a < 256) b → refusal (size_rules z (length b)) ≡ 0 → P (file_of (full_range z) (picture z b)))
    → (input : List ℕ) → All (λ (a : ℕ). a < 256) input → refusal (seams_rules input) ≡ 0 → P (seams input)
unfolding seams
seams-holds P holds input small e =
    let p = passed (ltb most_input (length input)) 7 (refusal (picture_rules (header_get input))) e in
    rw e (go (header_get input) refl p.1)
  where
    go : (o : Option (Size × List ℕ)) → header_get input ≡ o → refusal (picture_rules o) ≡ 0 → P (file_answer (header_get input))
    go none h r = absurd (omega arith)
    go (some (z, b)) h r =
        let s = (header_reads.sound input (z, b) h).0 in
        let fine = (served-both (size_rules z (length b)) (pixels_rule z ∷ []) refl r).0 in
        let n : ℕ = length (header_text z) in
        let rest : All (λ (a : ℕ). a < 256) b = rw (s, drop_at (header_text z) b n refl) at (all_drop (λ (a : ℕ). a < 256) n input small) in
        rw h (holds z b rest fine)

-- it is accepted,
pub seams-accepted : (input : List ℕ) → All (λ (a : ℕ). a < 256) input → refusal (seams_rules input) ≡ 0 → Accepted (seams input)
seams-accepted = seams-holds Accepted full_accepted

-- and "`seams` writes `edge`".
pub seams-edge : (input : List ℕ) → All (λ (a : ℕ). a < 256) input → refusal (seams_rules input) ≡ 0 → energy_word (seams input) ≡ rule_text Edge
seams-edge = seams-holds (λ f. energy_word f ≡ rule_text Edge) full_word
