-- What is found by the energies of a picture without marks is its seam.
use mathlib.Core.Path.{◌≡◌, sym, ap, ◌∙◌}
use mathlib.Core.Logic.{⊎_elim}
use mathlib.Core.Bool.{false}
use mathlib.Core.List.{List, ◌++◌}
use Prim.Native.Nat.{ℕ, ◌+◌, ◌≤◌, ◌<◌}
use native.Mathlib.Omega.{arith}
use lib.ListN.{length, get_or, take, drop, replicate}
use lib.Seq.{length-take-le}
use Rattle.std.specs.Prelude.{Result, Ok}
use Rattle.grids.proofs.Orders.{le-or-lt}
use Rattle.pictures.specs.declared.sizes.Size.{Size}
use Rattle.pictures.specs.declared.refusals.Refusal.{Refusal}
use Rattle.pictures.specs.Refusals.{refusal, served}
use Rattle.pictures.specs.Pictures.{picture_bytes, pixels, picture_in}
use Rattle.pictures.proofs.Limits.{Sized, sides_are, sized_of}
use Rattle.energy.specs.declared.methods.Method.{Method}
use Rattle.seam_bounds.specs.Spaces.{find_space_rules}
use Rattle.seam_bounds.proofs.Spaces.{rooms_are}
use Rattle.seam_rules.specs.Answers.{found_number, found_cost}
use Rattle.seam_sums.specs.Fences.{fence32}
use Rattle.seam_theory.specs.PictureSeams.{seam_of, cost_of}
use Rattle.seam_find.specs.ByCosts.{FindByGiven, least_sum, path_columns}
use Rattle.seam_find.specs.Costing.{plain_costs}
use Rattle.seam_find.specs.Finding.{FindInGiven}
use Rattle.pictures.proofs.Samples.{take_bytes}
use Rattle.seam_find.proofs.Found.{served-not, cost-not}
use Rattle.seam_find.proofs.Traced.{seam-traced, cost-summed}

module _ (z : Size) (how : Method) (space seam : List ℕ) (byte : (i : ℕ) → get_or space i 0 ≤ 255) (answer : Result ℕ Refusal) (space' seam' : List ℕ)
    (found : FindByGiven false (picture_bytes z) fence32 (plain_costs z how) (λ least answer. answer ≡ Ok least) space z seam answer space' seam') where
  abbrev rules : ℕ
  rules = refusal (find_space_rules z false (length space) (length seam))

  abbrev price : ℕ
  price = cost_of how z.width z.height (picture_in z space)

  abbrev columns : List ℕ
  columns = seam_of how z.width z.height (picture_in z space) ++ drop z.height seam

  abbrev left : List ℕ
  left = take (picture_bytes z) space ++ (replicate (pixels z) 0 ++ drop (picture_bytes z + pixels z) space)

  allowed : rules ≡ 0 → FindInGiven space z how seam answer space' seam'
  allowed none =
      let rooms = rooms_are z false (length space) (length seam) none in
      let front = take (picture_bytes z) space in
      let sized : Sized z (length front) = sized_of z (length front) (sides_are z rooms.sides) (length-take-le _ _ (omega (arith, rooms.room))) in
      let bytes : (i : ℕ) → get_or front i 0 ≤ 255 = take_bytes (picture_bytes z) space byte in
      let is : answer ≡ Ok (least_sum fence32 z.width z.height (plain_costs z how front)) = found.found none in
      let zero : found_number answer ≡ 0 = ap found_number is in
      record {
        number = zero ∙ sym none;
        cost = ap found_cost is ∙ cost-summed z how front sized bytes ∙ sym (ap (λ n. served n price 0) zero);
        space_left = found.space_left none ∙ sym (ap (λ n. served n left space) zero);
        seam_given =
            found.seam_given none
            ∙ ap (λ n. served n (path_columns fence32 z.width z.height (plain_costs z how front) ++ drop z.height seam) seam) zero
            ∙ ap (◌++ drop z.height seam) (seam-traced z how front sized bytes)
            ∙ sym (ap (λ n. served n columns seam) zero);
      }

  refused : 0 < rules → FindInGiven space z how seam answer space' seam'
  refused some =
      let told = found.refused some in
      let above : 0 < found_number answer = omega (arith, told.0, some) in
      record {
        number = told.0;
        cost = cost-not answer above ∙ sym (served-not (found_number answer) price 0 above);
        space_left = told.1 ∙ sym (served-not (found_number answer) left space above);
        seam_given = told.2 ∙ sym (served-not (found_number answer) columns seam above);
      }

  pub find_in-given : FindInGiven space z how seam answer space' seam'
  find_in-given = ⊎_elim (λ (l : rules ≤ 0). allowed (omega (arith, l))) refused (le-or-lt rules 0)
