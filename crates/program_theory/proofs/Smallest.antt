-- "Of several, the smallest number is given": the rules of both programs. An input over 65,536 bytes "is refused by 8 ahead of
-- every other number", so the smallest is given of an input that is no longer.
use mathlib.Core.Path.{◌≡◌, refl}
use mathlib.Core.Option.{Option, none, some}
use mathlib.Core.List.{List}
use Prim.Native.Nat.{ℕ, ◌≤◌, ◌<◌}
use lib.ListN.{length}
use borrow.Author.Tests.{lt-ltb, le-ltb}
use Rattle.pictures.specs.declared.sizes.Size.{Size}
use Rattle.pictures.specs.Refusals.{refusal, SmallestGiven}
use Rattle.pictures.proofs.Rules.{given-smallest, smallest-after}
use Rattle.text_theory.specs.Files.{parse}
use Rattle.file_theory.proofs.Smallest.{form_smallest}
use Rattle.program_theory.specs.Netpbm.{header_get}
use Rattle.program_theory.specs.Programs.{most_input, picture_rules, seams_rules, fitted_rules, width_rules, width_get, fit_rules}

pub picture-smallest : (o : Option (Size × List ℕ)) → SmallestGiven (picture_rules o)
picture-smallest none = given-smallest _ refl
picture-smallest (some r) = given-smallest _ refl

pub fitted-smallest : (v : ℕ) (f : List ℕ) → SmallestGiven (fitted_rules v f)
fitted-smallest v f = form_smallest _ (λ p. given-smallest _ refl) (parse f)

pub width_smallest : (o : Option (ℕ × List ℕ)) → SmallestGiven (width_rules o)
width_smallest none = given-smallest _ refl
width_smallest (some r) = fitted-smallest r.0 r.1

module _ (input : List ℕ) where
  pub seams-smallest : length input ≤ most_input → SmallestGiven (seams_rules input)
  seams-smallest h = smallest-after 8 _ _ (le-ltb _ _ h) (picture-smallest (header_get input))

  pub fit-smallest : length input ≤ most_input → SmallestGiven (fit_rules input)
  fit-smallest h = smallest-after 8 _ _ (le-ltb _ _ h) (width_smallest (width_get input))

  -- A longer input is refused by 8, whatever else is wrong with it.
  pub seams_longer : most_input < length input → refusal (seams_rules input) ≡ 8
  seams_longer h = rw (lt-ltb most_input (length input) h) refl

  pub fit_longer : most_input < length input → refusal (fit_rules input) ≡ 8
  fit_longer h = rw (lt-ltb most_input (length input) h) refl
