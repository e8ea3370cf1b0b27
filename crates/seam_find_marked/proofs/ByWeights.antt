-- What is found by the weights of a picture with marks: the least weight says whether a seam is allowed, and if one is, its cost; the path of
-- least weight is the seam.
use mathlib.Core.Path.{◌≡◌, refl, sym, ap, ap₂, ◌∙◌}
use mathlib.Core.Logic.{⊎_elim}
use mathlib.Core.Bool.{Bool, true, false, cond}
use mathlib.Core.List.{List, [], ◌∷◌, ◌++◌}
use Prim.Native.Nat.{ℕ, ◌+◌, ◌%◌, ◌≤◌, ◌<◌}
use native.Mathlib.Nat.{add_assoc}
use native.Mathlib.Omega.{arith}
use lib.ListN.{length, get_or, take, drop, replicate}
use Rattle.std.specs.Prelude.{Result, Ok, Err}
use Rattle.grids.proofs.Orders.{le-or-lt}
use Rattle.energy.specs.declared.methods.Method.{Method}
use Rattle.pictures.specs.declared.sizes.Size.{Size}
use Rattle.pictures.specs.declared.refusals.Refusal.{Refusal}
use Rattle.pictures.specs.Refusals.{◌when◌, number_of, refusal, served}
use Rattle.pictures.specs.Pictures.{Picture, picture_bytes, pixels, picture_in, marks_in}
use Rattle.pictures.proofs.Rules.{served-first, refused-first, refusal-most}
use Rattle.pictures.proofs.Limits.{Sized, sides_are, sized_of}
use Rattle.seam_theory.specs.PictureSeams.{marked_up, marked_seam_of, marked_cost_of, is_none}
use Rattle.seam_rules.specs.Answers.{found_number}
use Rattle.seam_bounds.specs.Spaces.{find_space_rules}
use Rattle.seam_bounds.proofs.Spaces.{Rooms, rooms_are}
use Rattle.seam_sums.specs.Fences.{weights_fence}
use Rattle.seam_sums.specs.Weights.{kept, protected, FoundByGiven}
use Rattle.seam_sums.proofs.Meant.{heavy, heavy-number, light, light-cost}
use Rattle.seam_find.specs.ByCosts.{FindByGiven, least_sum, path_columns}
use Rattle.seam_find.proofs.Found.{served-not, cost-not}
use Rattle.seam_find.proofs.Worked.{worked_not, worked-or}
use Rattle.seam_find_marked.specs.Inner.{weights_of, marked_bytes}
use Rattle.seam_find_marked.specs.Finding.{FindMarkedInGiven}
use Rattle.seam_find_marked.proofs.Marked.{front-picture, front-marks, front-sized, front_bytes, marked-some, marked-seam, marked-cost, marked_blocked}

-- What is lent.
module _ (z : Size) (how : Method) (space seam : List ℕ) (byte : (i : ℕ) → get_or space i 0 ≤ 255) (answer : Result ℕ Refusal) (space' seam' : List ℕ)
    (found : FindByGiven true (marked_bytes z) weights_fence (weights_of z how) FoundByGiven space z seam answer space' seam') where
  -- what is to be given: whether no seam is allowed, the cost,
  abbrev of-marked : {A : Type 0} → (Method → ℕ → ℕ → Picture → List (List ℕ) → A) → A
  of-marked f = f how z.width z.height (picture_in z space) (marks_in z space)

  abbrev blocked : Bool
  blocked = is_none (of-marked marked_up)

  abbrev price : ℕ
  price = of-marked marked_cost_of

  -- the seam's columns before the rest of their buffer, and the space
  abbrev columns : List ℕ
  columns = of-marked marked_seam_of ++ drop z.height seam

  abbrev left : List ℕ
  left = take (picture_bytes z + pixels z) space ++ (replicate (pixels z) 0 ++ drop (picture_bytes z + (pixels z + pixels z)) space)

  abbrev rules : ℕ
  rules = refusal (find_space_rules z true (length space) (length seam))

  -- The rules of 2, 3 and 8 don't apply.
  module _ (none : refusal (find_space_rules z true (length space) (length seam)) ≡ 0) where
    -- then 12 decides
    last-rule : refusal (find_space_rules z true (length space) (length seam) ++ (12 when blocked ∷ [])) ≡ cond blocked 12 0
    last-rule = served-first (find_space_rules z true (length space) (length seam)) (12 when blocked ∷ []) refl none

    rooms : Rooms z true (length space) (length seam)
    rooms = rooms_are z true (length space) (length seam) none

    sure : Sized z (picture_bytes z)
    sure = sized_of z (picture_bytes z) (sides_are z rooms.sides) refl

    front-room : marked_bytes z ≤ length space
    front-room = omega (arith, rooms.room)

    -- picture and marks at the front
    abbrev front : List ℕ
    front = take (marked_bytes z) space

    front_is : Sized z (length (take (picture_bytes z) front))
    front_is = front-sized z space sure front-room

    front-byte : (i : ℕ) → get_or (take (picture_bytes z) front) i 0 ≤ 255
    front-byte = front_bytes z space byte

    -- they are the picture and the marks of the space
    same : {A : Type 0} (f : Method → ℕ → ℕ → Picture → List (List ℕ) → A)
        → f how z.width z.height (picture_in z front) (marks_in z front) ≡ of-marked f
    same f = ap₂ (f how z.width z.height) (front-picture z space) (front-marks z space (omega (arith, front-room)))

    -- the least weight, from which on no seam is allowed,
    abbrev weight : ℕ
    weight = least_sum weights_fence z.width z.height (weights_of z how front)

    stuck : protected ≤ weight → blocked ≡ true
    stuck over = sym (ap is_none (same marked_up)) ∙ marked_blocked z how front front_is front-byte over

    -- and below which one is, its cost and its columns
    free : weight < protected → blocked ≡ false
    free under = sym (ap is_none (same marked_up)) ∙ marked-some z how front front_is front-byte under

    cost_is : weight < protected → weight % kept ≡ price
    cost_is under = marked-cost z how front front_is front-byte under ∙ same marked_cost_of

    columns-are : weight < protected → path_columns weights_fence z.width z.height (weights_of z how front) ≡ of-marked marked_seam_of
    columns-are under = marked-seam z how front front_is front-byte under ∙ same marked_seam_of

    by : FoundByGiven weight answer
    by = found.found none

    cleared : space' ≡ left
    cleared = found.space_left none ∙ ap (λ k. take (marked_bytes z) space ++ (replicate (pixels z) 0 ++ drop k space)) (add_assoc (picture_bytes z) (pixels z) (pixels z))

    -- refused by 12
    refused : (why : Refusal) → answer ≡ Err why → FindMarkedInGiven space z how seam answer space' seam'
    refused why is =
        let over : protected ≤ weight = heavy weight answer by why is in
        let told : found_number answer ≡ number_of why = ap found_number is in
        let n : found_number answer ≡ cond blocked 12 0 = told ∙ heavy-number weight answer by why is ∙ sym (ap (λ t. cond t 12 0) (stuck over)) in
        let some : 0 < found_number answer = omega (arith, told, heavy-number weight answer by why is) in
        record {
          number = n ∙ sym last-rule;
          cost = cost-not answer some ∙ sym (served-not (found_number answer) price 0 some);
          space_left = cleared ∙ sym (worked-or (found_number answer) left space blocked n);
          seam_given = found.seam_given none ∙ served-not (found_number answer) _ seam some ∙ sym (served-not (found_number answer) columns seam some);
        }

    -- a seam is allowed
    allowed : (cost : ℕ) → answer ≡ Ok cost → FindMarkedInGiven space z how seam answer space' seam'
    allowed cost is =
        let under : weight < protected = light weight answer by cost is in
        let zero : found_number answer ≡ 0 = ap found_number is in
        let n : found_number answer ≡ cond blocked 12 0 = zero ∙ sym (ap (λ t. cond t 12 0) (free under)) in
        record {
          number = n ∙ sym last-rule;
          cost = light-cost weight answer by cost is ∙ cost_is under ∙ sym (ap (λ k. served k price 0) zero);
          space_left = cleared ∙ sym (worked-or (found_number answer) left space blocked n);
          seam_given =
              found.seam_given none
              ∙ ap (λ x. served (found_number answer) (x ++ drop z.height seam) seam) (columns-are under);
        }

  -- They do.
  early : 0 < rules → FindMarkedInGiven space z how seam answer space' seam'
  early some =
      let told = found.refused some in
      let first : refusal (find_space_rules z true (length space) (length seam) ++ (12 when blocked ∷ [])) ≡ rules =
      refused-first (find_space_rules z true (length space) (length seam)) (12 when blocked ∷ []) some
      in
      let above : 0 < found_number answer = omega (arith, told.0, some) in
      let few : found_number answer ≤ 8 = omega (arith, told.0, refusal-most 8 (find_space_rules z true (length space) (length seam)) refl) in
      record {
        number = told.0 ∙ sym first;
        cost = cost-not answer above ∙ sym (served-not (found_number answer) price 0 above);
        space_left = told.1 ∙ sym (worked_not (found_number answer) left space above few);
        seam_given = told.2 ∙ sym (served-not (found_number answer) columns seam above);
      }

  late : rules ≡ 0 → FindMarkedInGiven space z how seam answer space' seam'
  late none = go answer refl
    where
      go : (r : Result ℕ Refusal) → answer ≡ r → FindMarkedInGiven space z how seam answer space' seam'
      go (Ok cost) is = allowed none cost is
      go (Err why) is = refused none why is

  pub find_marked_in-given : FindMarkedInGiven space z how seam answer space' seam'
  find_marked_in-given = ⊎_elim (λ (l : rules ≤ 0). late (omega (arith, l))) early (le-or-lt rules 0)
