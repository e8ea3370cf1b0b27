-- What is found by any costs: the ways stand after what the costs are read from, the columns traced back by them are the path's, and the ways
-- are cleared.
use mathlib.Core.Path.{◌≡◌, refl, sym, ap, ap₂, ◌∙◌}
use mathlib.Core.Bool.{Bool, true, false, true≢false}
use mathlib.Core.List.{List, ◌++◌}
use Rattle.seam_rules.specs.Answers.{found_cost}
use Prim.Native.Nat.{ℕ, zero, suc, ◌+◌, ◌-◌, ◌*◌, ◌≤◌, ◌<◌, min}
use native.Mathlib.Omega.{arith}
use borrow.Rule.Slice.PartMut.{put_mid, mid_of}
use lib.ListN.{length, get_or, take, drop, replicate}
use lib.Seq.{length-take-le}
use Rattle.std.specs.Prelude.{Result, Ok, Err}
use Rattle.std.specs.Result.{is_ok}
use Rattle.pictures.proofs.Rules.{kept_by}
use Rattle.grids.specs.Table.{table}
use Rattle.grids.specs.Rows.{flat}
use Rattle.pictures.specs.declared.sizes.Size.{Size}
use Rattle.pictures.specs.declared.refusals.Refusal.{Refusal}
use Rattle.pictures.specs.Refusals.{given, refusal, served}
use Rattle.pictures.proofs.Limits.{Sides, sides_are}
use Rattle.energy.specs.declared.methods.Method.{Method}
use Rattle.seam_bounds.specs.Spaces.{find_space_rules}
use Rattle.seam_bounds.proofs.Spaces.{Rooms, rooms_are}
use Rattle.seam_theory.specs.Sums.{CostRows, columns_to, least_to}
use Rattle.seam_theory.proofs.Capped.{capped, CappedLeast, capped_least}
use Rattle.seam_theory.proofs.Kept.{kept_ways, kept_ways-long, kept_columns}
use Rattle.seam_sums.proofs.Turns.{least_inside}
use Rattle.seam_find.specs.ByCosts.{FindByGiven, cleared_after, last_sums, bottom_column, least_sum, path_columns}
use Rattle.seam_find.specs.Costing.{CostingLaws, LeastTold}
use Rattle.seam_find.specs.Inner.Bottom.{BottomGiven}
use Rattle.seam_find.specs.Tracing.{traced}
use Rattle.seam_find.proofs.Loops.{Traceable, traced_is}
use Rattle.seam_find.proofs.Priced.{sum-low, next-low}
use Rattle.seam_find.proofs.Spaces.{space_lent, space-filled, Ends, ends}

-- What is given where an answer is one, and where it is a refusal.
pub ok-served : {B : Type 0} (answer : Result ℕ Refusal) (t : Bool) → t ≡ is_ok answer → t ≡ true → (x y : B) → served (given answer) x y ≡ x
ok-served (Ok n) t is e x y = refl
ok-served (Err why) t is e x y = absurd (true≢false (sym e ∙ is))

pub err-served : {B : Type 0} (answer : Result ℕ Refusal) (t : Bool) → t ≡ is_ok answer → t ≡ false → (x y : B) → served (given answer) x y ≡ y
err-served (Ok n) t is e x y = absurd (true≢false (sym is ∙ e))
err-served (Err why) t is e x y = sym (kept_by why x y)

-- Two are given alike where there is an answer to give them with.
served-where : {B : Type 0} (answer : Result ℕ Refusal) (x x' y : B) → (given answer ≡ 0 → x ≡ x') → served (given answer) x y ≡ served (given answer) x' y
served-where (Ok n) x x' y same = same refl
served-where (Err why) x x' y same = sym (kept_by why x y) ∙ kept_by why x' y

module _ {marked : Bool} {front : Size → ℕ} {costs : Size → Method → List ℕ → ℕ → CostRows} {dearest fence most end : ℕ}
    (laws : CostingLaws marked front costs dearest fence most end) (means : ℕ → Result ℕ Refusal → Type 0) {z z' : Size} {how : Method} {space : List ℕ} (seam : List ℕ)
    (none : refusal (find_space_rules z marked (length space) (length seam)) ≡ 0) (same : z' ≡ z) {q : ℕ} (bytes' : q ≡ front z')
    {filled : List ℕ} {column sum : ℕ} (kept : length filled ≡ length space)
    (bottom' : BottomGiven most fence (front z') z' (costs z' how) space filled column sum) (byte : (i : ℕ) → get_or space i 0 ≤ 255) where
  bytes : q ≡ front z
  bytes = bytes' ∙ ap front same

  bottom : BottomGiven most fence (front z) z (costs z how) space filled column sum
  bottom = rw same at bottom'

  rooms : Rooms z marked (length space) (length seam)
  rooms = rooms_are z marked (length space) (length seam) none

  sides : Sides z
  sides = sides_are z rooms.sides

  bounds : Ends z
  bounds = ends z sides

  abbrev before : List ℕ
  before = take (front z) space

  abbrev ways : List ℕ
  ways = flat (table (kept_ways most fence z.width (costs z how before)) (z.height - 1))

  abbrev n : ℕ
  n = (z.height - 1) * z.width

  abbrev all : ℕ
  all = z.height * z.width

  before_long : length before ≡ front z
  before_long = length-take-le (front z) space (omega (arith, rooms.room, laws.room z))

  ways-wide : length ways ≡ n
  ways-wide = kept_ways-long most fence z.width (costs z how before) (z.height - 1)

  abbrev lent : List ℕ
  lent = take (q + n - q) (drop q filled)

  lent_is : lent ≡ ways
  lent_is = space_lent space before ways filled (front z) n bottom.ways before_long ways-wide q bytes

  traceable : Traceable (length lent) z.width z.height column (length seam)
  traceable = record {
    some = sides.height_some;
    short = sides.height_most;
    narrow = sides.width_most;
    inside = bottom.inside;
    room = rooms.seam_room;
    long = ap length lent_is ∙ ways-wide;
  }

  -- The first of the least sums of the last row.
  abbrev sums : List ℕ
  sums = last_sums fence z.width z.height (costs z how before)

  abbrev first : ℕ
  first = bottom_column fence z.width z.height (costs z how before)

  first-inside : first < z.width
  first-inside = omega (arith, least_inside sums (z.width - 1), sides.width_some)

  as-kept : CappedLeast most sums (least_to (capped most sums) (z.width - 1)) first
  as-kept = capped_least most sums (z.width - 1)

  front-room : front z ≤ length space
  front-room = omega (arith, rooms.room, laws.room z)

  least-low : least_sum fence z.width z.height (costs z how before) < fence
  least-low = sum-low laws z how space rooms.sides front-room byte (z.height - 1) first (omega (arith, sides.height_some)) first-inside

  least_is : sum ≡ min most (least_sum fence z.width z.height (costs z how before))
  least_is = bottom.sum_is ∙ ap (λ k. get_or (capped most sums) k 0) bottom.column_is ∙ as-kept.sum

  -- Where it is below what sums stay at, the path that leads there is traced.
  path-traced : least_sum fence z.width z.height (costs z how before) < most
      → traced lent z.width z.height column seam ≡ path_columns fence z.width z.height (costs z how before) ++ drop z.height seam
  path-traced low =
      traced_is lent z.width z.height column seam traceable
      ∙ ap₂ (λ x k. columns_to x z.width (z.height - 1) k ++ drop z.height seam) lent_is (bottom.column_is ∙ as-kept.column low)
      ∙ ap (◌++ drop z.height seam)
      (kept_columns most fence z.width (costs z how before) (z.height - 1) (laws.wide z how before 0)
      (next-low laws z how space rooms.sides front-room byte) (z.height - 1) first (omega arith) first-inside low)

  cleared : (zeros : List ℕ) → zeros ≡ replicate (length (mid_of q (q + all - q) filled)) 0
      → put_mid q (q + all - q) filled zeros ≡ cleared_after (front z) z space
  cleared zeros are =
      space-filled space before ways filled (front z) n bottom.ways before_long ways-wide q all 0 zeros bytes (omega (arith, bounds.rows))
      (omega (arith, kept, bytes, rooms.room, laws.room z)) are

  pub find_by-given : (answer : Result ℕ Refusal) → LeastTold fence most means sum answer → (zeros : List ℕ) → zeros ≡ replicate (length (mid_of q (q + all - q) filled)) 0
      → (seam' : List ℕ) → seam' ≡ served (given answer) (traced lent z.width z.height column seam) seam
      → FindByGiven marked (front z) fence (costs z how) means space z seam answer (put_mid q (q + all - q) filled zeros) seam'
  find_by-given answer told zeros are seam' traced-back = record {
    refused = λ some. absurd (omega (arith, none, some));
    found = λ e. told.meant (least_sum fence z.width z.height (costs z how before)) least-low least_is;
    space_left = λ e. cleared zeros are;
    seam_given = λ e. traced-back ∙ served-where answer _ _ seam (λ ok. path-traced (told.below _ least-low least_is ok));
  }

-- Where something is refused, the second is given, and no cost.
pub served-not : {A : Type 0} (n : ℕ) (x y : A) → 0 < n → served n x y ≡ y
served-not zero x y h = absurd (omega arith)
served-not (suc n) x y h = refl

pub cost-not : (answer : Result ℕ Refusal) → 0 < given answer → found_cost answer ≡ 0
cost-not (Ok n) h = absurd (omega arith)
cost-not (Err why) h = refl
