-- The loop of object removal: what stands in the buffers after `count` cuts, and what is still to be done.
use mathlib.Core.Path.{◌≡◌, refl, sym, ap, ap₂, ◌∙◌}
use mathlib.Core.Logic.{⊎_elim}
use mathlib.Core.Bool.{Bool, true, false, not}
use mathlib.Core.List.{List, ◌++◌, append-nil}
use Prim.Native.Nat.{ℕ, suc, ◌+◌, ◌-◌, ◌*◌, ◌≤◌, ◌<◌}
use native.Mathlib.Nat.{suc-mul, zero-mul, le_of_eq, mul-le-mul_left, eq-or-lt_of_le}
use native.Mathlib.Numerals.{add-one}
use native.Mathlib.Omega.{arith}
use borrow.Author.Tests.{not-true, not-false}
use lib.ListN.{length, take, replicate, replicate-append-replicate}
use lib.Seq.{take_all}
use Rattle.grids.specs.Rows.{flat}
use Rattle.grids.proofs.Rows.{flat-rows_of}
use Rattle.pictures.specs.declared.sizes.Size.{Size}
use Rattle.pictures.specs.Pictures.{channels_of, pixel_bytes, picture, bytes, pixels, marks_of}
use Rattle.pictures.proofs.Limits.{Sides, sides_are, sides_served, sized_is, sides_of}
use Rattle.pictures.proofs.Samples.{AreBytes}
use Rattle.pictures.proofs.Buffers.{bytes-picture}
use Rattle.energy.specs.declared.methods.Method.{Method}
use Rattle.seam_bounds.specs.Moves.{outside}
use Rattle.grids.proofs.Orders.{more_than_one}
use Rattle.seam_rules.specs.declared.answers.Removal.{Removal}
use Rattle.seam_objects.specs.Objects.{MarkedPicture, some_two, to_remove, no_seam, cut_once, after_cuts, Removed, ends, removal}
use Rattle.seam_rules.specs.declared.answers.Ending.{Ending}
use Rattle.seam_rules.specs.declared.answers.Ending.TheVariants.{Done, Narrow, Spent, Blocked}
use Rattle.seam_objects.specs.Removing.{marked_picture, left_picture, left_marks}
use Rattle.std.specs.Prelude.{None, Some}
use Rattle.seam_rules.specs.Endings.{next_step}
use Rattle.seam_rules.proofs.Choices.{GoesOn, step_cut, step-ended}
use Rattle.seam_objects.specs.Inner.{SeamsNeeded, SeamsGiven, FrontNeeded, front, FrontCut}
use Rattle.seam_objects.proofs.Shapes.{flat_inside, shaped_start, shaped_cut}
use Rattle.seam_objects.proofs.Standing.{Standing, front-marks, front_is, bytes_after_lem, marks-after, bytes_there, marks_there}
use Rattle.seam_objects.proofs.Endings.{removal_done, removal-narrow, removal-spent, removal-blocked, removal-cut}

-- The size with this width.
abbrev pub size_at : Size → ℕ → Size
size_at z w = record { width = w; height = z.height; kind = z.kind }

-- After `count` cuts: what is left of the removal, and the buffers.
pub record Going (z : Size) (how : Method) (b m : List ℕ) (budget width count : ℕ) (b' m' : List ℕ) : Type 0 where
  pub same : removal budget 0 (marked_picture z how b m) ≡ removal (budget - count) count (after_cuts count (marked_picture z how b m))
  pub sides : Sides z
  pub most : count ≤ budget
  pub some : 0 < width
  pub sum : width + count ≡ z.width
  pub stands :
      Standing (size_at z width) how (after_cuts count (marked_picture z how b m)) b' m'
      (replicate (count * (z.height * pixel_bytes z.kind)) 0)
      (replicate (count * z.height) 0)

-- Before the first cut nothing is freed, and a cut frees as much again.
none : (xs : List ℕ) (n : ℕ) → xs ++ replicate (0 * n) 0 ≡ xs
none xs n = ap (λ k. xs ++ replicate k 0) (zero-mul n) ∙ append-nil xs

one_more : (n count : ℕ) → replicate n 0 ++ replicate (count * n) 0 ≡ replicate {A = ℕ} (suc count * n) 0
one_more n count =
    let e : n + count * n ≡ suc count * n = omega (arith, suc-mul count n) in
    replicate-append-replicate n (count * n) 0 ∙ ap (λ k. replicate k 0) e

pub going_start : (z : Size) (how : Method) (b m work : List ℕ) (budget : ℕ) → AreBytes b → SeamsNeeded z b m work → Going z how b m budget z.width 0 b m
unfolding after_cuts
going_start z how b m work budget small need =
    let s = sized_is z (length b) need.sized in
    let all : budget - 0 ≡ budget = omega arith in
    record {
      same = rw all refl;
      sides = sides_are z (sides_served z (length b) need.sized);
      most = omega arith;
      some = s.width_some;
      sum = omega arith;
      stands = record {
        by = refl;
        wide = refl;
        high = refl;
        shaped = shaped_start z b m work need how;
        picture_is = sym (none (bytes z.kind (picture z b)) (z.height * pixel_bytes z.kind) ∙ bytes-picture z b s.length_is small);
        marks_are = sym (none (flat (marks_of z m)) z.height ∙ flat-rows_of z.width z.height m ∙ take_all (pixels z) m (le_of_eq need.marked));
      };
    }

module _ {z : Size} {how : Method} {b m : List ℕ} {budget width count : ℕ} {b' m' : List ℕ} (g : Going z how b m budget width count b' m') where
  abbrev left : MarkedPicture
  left = after_cuts count (marked_picture z how b m)

  -- The marks that are searched.
  pub going_marks : some_two (take (z.height * width) m') ≡ to_remove left
  going_marks = ap some_two (front-marks g.stands)

  pub going_room : z.height * width ≤ length m'
  going_room = marks_there g.stands

  pub going_few : z.height * width ≤ z.height * z.width
  going_few = mul-le-mul_left z.height (omega (arith, g.sum))

  pub going_less : (count ≡ budget → ⊥) → count < budget
  going_less due = ⊎_elim (λ (e : count ≡ budget). absurd (due e)) (λ (h : count < budget). h) (eq-or-lt_of_le g.most)

  -- An ending with the count of seams cut.
  ended : (e : Ending) → removal (budget - count) count left ≡ ends e count left → SeamsGiven b m z how budget (record { ending = e; count = count }) b' m'
  ended e is =
      let all : removal budget 0 (marked_picture z how b m) ≡ ends e count left = g.same ∙ is in
      record {
        ending = sym (ap (λ (r : Removed). r.ending) all);
        count = sym (ap (λ (r : Removed). r.count) all);
        picture_left = g.stands.picture_is ∙ sym (ap (left_picture z) all);
        marks_left = g.stands.marks_are ∙ sym (ap (left_marks z) all);
      }

  pub going_done : false ≡ to_remove left → SeamsGiven b m z how budget (record { ending = Done; count = count }) b' m'
  going_done none = ended Done (removal_done count left (budget - count) (sym none))

  module _ (two : true ≡ to_remove left) where
    pub going-narrow : width ≡ 1 → SeamsGiven b m z how budget (record { ending = Narrow; count = count }) b' m'
    going-narrow one = ended Narrow (removal-narrow count left (sym two) (budget - count) (g.stands.wide ∙ one))

    module _ (more : width ≡ 1 → ⊥) where
      not-one : left.width ≡ 1 → ⊥
      not-one e = more (sym g.stands.wide ∙ e)

      pub going-spent : count ≡ budget → SeamsGiven b m z how budget (record { ending = Spent; count = count }) b' m'
      going-spent e =
          let rest : budget - count ≡ 0 = omega arith in
          ended Spent (rw rest (removal-spent count left (sym two) not-one))

  -- The step before a cut gives no ending, after the search for a mark 2.
  module _ {marked : Bool} (found : marked ≡ some_two (take (z.height * width) m')) (step : None ≡ next_step marked width count budget) where
    on : GoesOn marked width count budget
    on = step_cut marked width count budget (sym step)

    two : true ≡ to_remove left
    two = sym on.some ∙ found ∙ going_marks

    many : left.width ≡ 1 → ⊥
    many e = on.wide (sym g.stands.wide ∙ e)

    before : count < budget
    before = going_less on.due

    rest : budget - count ≡ suc (budget - suc count)
    rest = omega (arith, before)

    same-front : front (size_at z width) how b' m' ≡ left
    same-front = front_is g.stands

    -- What the cut asks.
    pub going_needed : {work : List ℕ} → 32 * pixels z ≤ length work → FrontNeeded (size_at z width) b' m' work
    going_needed room = record {
      sides = sides_of (size_at z width) g.some (omega (arith, g.sum, g.sides.width_most)) g.sides.height_some g.sides.height_most;
      wide = more_than_one width g.some on.wide;
      picture_there = bytes_there g.stands;
      marks_there = going_room;
      few = ap (outside 3) (front-marks g.stands) ∙ flat_inside g.stands.shaped.marks_of_each;
      room = omega (arith, going_few, room);
    }

    pub going-blocked : {b'' m'' : List ℕ} → FrontCut (size_at z width) how b' m' false b'' m'' → SeamsGiven b m z how budget (record { ending = Blocked; count = count }) b'' m''
    going-blocked f =
        let none : no_seam left ≡ true = not-false (no_seam left) (ap (λ t. not (no_seam t)) (sym same-front) ∙ sym f.cut_is) in
        rw (f.picture_left, f.marks_left)
        (ended Blocked (rw rest (removal-blocked count left (sym two) many (budget - suc count) none)))

    next : {b'' m'' : List ℕ} → FrontCut (size_at z width) how b' m' true b'' m'' → Going z how b m budget (width - 1) (suc count) b'' m''
    unfolding after_cuts cut_once
    next f =
        let seam : no_seam left ≡ false = not-true (no_seam left) (ap (λ t. not (no_seam t)) (sym same-front) ∙ sym f.cut_is) in
        let some_left = more_than_one width g.some on.wide in
        record {
          same = g.same ∙ rw rest (removal-cut count left (sym two) many (budget - suc count) seam);
          sides = g.sides;
          most = before;
          some = omega (arith, some_left);
          sum = omega (arith, g.sum, g.some);
          stands = record {
            by = g.stands.by;
            wide = ap (λ w. w - 1) g.stands.wide;
            high = g.stands.high;
            shaped = shaped_cut (channels_of z.kind) left g.stands.shaped (rw g.stands.wide some_left) seam;
            picture_is =
                f.picture_left
                ∙ ap₂ (λ t r. bytes z.kind (cut_once t).picture ++ (replicate (z.height * pixel_bytes z.kind) 0 ++ r)) same-front (bytes_after_lem g.stands)
                ∙ ap (bytes z.kind (cut_once left).picture ++◌) (one_more (z.height * pixel_bytes z.kind) count);
            marks_are =
                f.marks_left
                ∙ ap₂ (λ t r. flat (cut_once t).marks ++ (replicate z.height 0 ++ r)) same-front (marks-after g.stands)
                ∙ ap (flat (cut_once left).marks ++◌) (one_more z.height count);
          };
        }

    -- One cut more.
    pub going_on : {b'' m'' : List ℕ} → FrontCut (size_at z width) how b' m' true b'' m'' → Going z how b m budget (width - 1) (count + 1) b'' m''
    going_on f = rw (add-one count) (next f)

-- An ending that the step before a cut gives.
pub going_ended : {z : Size} {how : Method} {b m : List ℕ} {budget width count : ℕ} {b' m' : List ℕ} (g : Going z how b m budget width count b' m') {marked : Bool}
    → marked ≡ some_two (take (z.height * width) m') → (answer : Removal) → next_step marked width count budget ≡ Some answer → SeamsGiven b m z how budget answer b' m'
going_ended {z} {how} {b} {m} {budget} {width} {count} {b'} {m'} g {marked} found =
    let is = found ∙ going_marks g in
    step-ended marked width count budget (λ answer. SeamsGiven b m z how budget answer b' m')
    (λ e. going_done g (sym e ∙ is))
    (λ e one. going-narrow g (sym e ∙ is) one)
    (λ e more all. going-spent g (sym e ∙ is) more all)
