-- A cut of the picture and marks that stand at the front of their buffers: which number it is refused by, and what it leaves.
use Rattle.std.specs.Prelude.{Result, is_ok}
use mathlib.Core.Path.{◌≡◌, sym, ap, ◌∙◌}
use mathlib.Core.Bool.{Bool, true, false, not, cond}
use mathlib.Core.List.{List, ◌++◌, append_assoc}
use Prim.Native.Nat.{ℕ, ◌*◌, ◌≤◌}
use native.Mathlib.Omega.{arith}
use borrow.Author.Tests.{eq-eqb, ne_eqb, le-ltb}
use lib.ListN.{length, take, drop, replicate, take-append-drop}
use lib.Seq.{length-take-le}
use Rattle.grids.specs.Rows.{flat}
use Rattle.pictures.specs.declared.sizes.Size.{Size}
use Rattle.pictures.specs.declared.refusals.Refusal.{Refusal}
use Rattle.pictures.specs.Refusals.{refusal, served}
use Rattle.pictures.specs.Pictures.{pixel_bytes, picture_bytes, picture, bytes, pixels, work_bytes, marks_of}
use Rattle.pictures.proofs.Limits.{sides_are}
use Rattle.energy.specs.declared.methods.Method.{Method}
use Rattle.seam_rules.specs.Answers.{found_number}
use Rattle.seam_rules.specs.declared.answers.Axis.TheVariants.{Vertical}
use Rattle.seam_turn.specs.Axes.{turned, cut_along}
use Rattle.seam_cut.specs.Cutting.{closed_along}
use Rattle.seam_cut_marked.specs.Axes.{marked_seam_along, blocked_along}
use Rattle.seam_cut_marked.specs.Marking.{marked_cut_rules, closed_marks}
use Rattle.seam_cut_marked.proofs.Buffers.{ok_free}
use Rattle.seam_objects.specs.Objects.{no_seam, cut_once}
use Rattle.seam_objects.specs.Inner.{FrontNeeded, front, FrontCut}

-- A part at the front as it comes back, with what stood after it.
part_back : {A : Type 0} (t : Bool) (n k : ℕ) (x freed b b' : List A) → n ≡ cond t 12 0 → b' ≡ served n (x ++ freed) (take k b)
    → b' ++ drop k b ≡ cond (not t) (x ++ (freed ++ drop k b)) b
part_back true n k x freed b b' e f = ap (◌++ drop k b) (f ∙ ap (λ n. served n (x ++ freed) (take k b)) e) ∙ take-append-drop k b
part_back false n k x freed b b' e f = ap (◌++ drop k b) (f ∙ ap (λ n. served n (x ++ freed) (take k b)) e) ∙ append_assoc x freed (drop k b)

module _ {z : Size} {b m work : List ℕ} (how : Method) (need : FrontNeeded z b m work) where
  -- Only 12 refuses it.
  front-number : (seam : ℕ) → z.height ≤ seam
      → refusal (marked_cut_rules how Vertical z (take (picture_bytes z) b) (take (pixels z) m) seam (length (take (work_bytes z) work))) ≡ cond (no_seam (front z how b m)) 12 0
  unfolding blocked_along turned
  front-number seam long =
      let s = sides_are z need.sides in
      let w : z.width ≡ 0 → ⊥ = λ e. omega (arith, s.width_some) in
      let h : z.height ≡ 0 → ⊥ = λ e. omega (arith, s.height_some) in
      let one : z.width ≡ 1 → ⊥ = λ e. omega (arith, need.wide) in
      let room : work_bytes z ≤ length (take (work_bytes z) work) = omega (arith, length-take-le (work_bytes z) work need.room) in
      simp (
        ne_eqb _ _ w,
        ne_eqb _ _ h,
        le-ltb _ _ s.width_most,
        le-ltb _ _ s.height_most,
        eq-eqb _ _ (length-take-le (picture_bytes z) b need.picture_there),
        eq-eqb _ _ (length-take-le (pixels z) m need.marks_there),
        need.few,
        le-ltb _ _ long,
        le-ltb _ _ room,
        ne_eqb _ _ one,
      )

  -- The seam of what k bytes of the picture and n marks hold.
  abbrev seam_lent : ℕ → ℕ → List ℕ
  seam_lent k n = marked_seam_along how Vertical z (picture z (take k b)) (marks_of z (take n m))

  -- The number, where k bytes of the picture, n marks and this room for work are lent.
  abbrev number_at : ℕ → ℕ → ℕ → ℕ → ℕ
  number_at k n room seam = refusal (marked_cut_rules how Vertical z (take k b) (take n m) seam (length (take room work)))

  -- What stands in the buffers where this number is given.
  cut_at : (n : ℕ) → n ≡ cond (no_seam (front z how b m)) 12 0 → (b' m' : List ℕ) (t : Bool) → t ≡ not (no_seam (front z how b m))
      → b' ≡ served n (closed_along Vertical z (seam_lent (picture_bytes z) (pixels z)) (take (picture_bytes z) b)) (take (picture_bytes z) b)
      → m' ≡ served n (closed_marks Vertical z (seam_lent (picture_bytes z) (pixels z)) (take (pixels z) m)) (take (pixels z) m)
      → FrontCut z how b m t (b' ++ drop (picture_bytes z) b) (m' ++ drop (pixels z) m)
  unfolding marked_seam_along cut_along turned cut_once
  cut_at n number b' m' t is p q =
      let u = no_seam (front z how b m) in
      let left = cut_once (front z how b m) in
      let gap : List ℕ = replicate (z.height * pixel_bytes z.kind) 0 in
      record {
        cut_is = is;
        picture_left =
            part_back u n (picture_bytes z) (bytes z.kind left.picture) gap b b' number p
            ∙ ap (λ t. cond t (bytes z.kind left.picture ++ (gap ++ drop (picture_bytes z) b)) b) (sym is);
        marks_left =
            part_back u n (pixels z) (flat left.marks) (replicate z.height 0) m m' number q
            ∙ ap (λ t. cond t (flat left.marks ++ (replicate z.height 0 ++ drop (pixels z) m)) m) (sym is);
      }

  module _ {k n room : ℕ} (e : k ≡ picture_bytes z) (f : n ≡ pixels z) (g : room ≡ work_bytes z) {seam : ℕ} (long : z.height ≤ seam) where
    number_is : number_at k n room seam ≡ cond (no_seam (front z how b m)) 12 0
    number_is = rw (e, f, g) (front-number seam long)

    -- The answer says whether there was a seam.
    module _ (answer : Result ℕ Refusal) (told : found_number answer ≡ number_at k n room seam) where
      front_told : is_ok answer ≡ not (no_seam (front z how b m))
      front_told = ok_free (no_seam (front z how b m)) answer (told ∙ number_is)

      -- What stands in the buffers then.
      pub front_cut : (b' m' : List ℕ) → b' ≡ served (found_number answer) (closed_along Vertical z (seam_lent k n) (take k b)) (take k b)
          → m' ≡ served (found_number answer) (closed_marks Vertical z (seam_lent k n) (take n m)) (take n m)
          → FrontCut z how b m (is_ok answer) (b' ++ drop k b) (m' ++ drop n m)
      front_cut b' m' = rw (e, f) (cut_at (found_number answer) (told ∙ number_is) b' m' (is_ok answer) front_told)
