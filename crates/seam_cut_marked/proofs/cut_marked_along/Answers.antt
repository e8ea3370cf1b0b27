-- `seam_cut_marked::cut_marked_along` meets its contract: where a seam is allowed it lies inside the picture, so closing up the
-- picture and the marks is served.
use Rattle.std.proofs.Common.{◌≡◌, Result, Ok, Err, IsOk, false, eqb, List, ◌++◌, ℕ, ◌+◌, ◌-◌, ◌<◌, ◌≤◌, length, take, drop, replicate, refl, sym, ap, ap₂, ◌∙◌, mul-one, take_at, arith}
use mathlib.Core.List.{append-nil}
use lib.Seq.{drop-length}
use mathlib.Core.Bool.{true≢false}
use borrow.Author.Tests.{not-true}
use borrow.Rule.Slice.PartMut.{put_mid, mid_of, same_len_mid}
use Rattle.grids.specs.Rows.{flat}
use Rattle.grids.proofs.Parts.{put_part, part_length, last_part}
use Rattle.grids.specs.Each.{Each}
use Rattle.grids.proofs.Shapes.{each-length}
use Rattle.pictures.specs.declared.sizes.Kind.TheVariants.{Grey}
use Rattle.pictures.specs.declared.sizes.Size.{Size}
use Rattle.pictures.specs.declared.refusals.Refusal.{Refusal}
use Rattle.pictures.specs.Refusals.{given, refusal}
use Rattle.pictures.specs.Pictures.{pixel_bytes, size_rules, picture_bytes, picture, bytes, pixels, marks_of, picture_in}
use Rattle.pictures.proofs.Limits.{Sized, sized_is}
use Rattle.energy.specs.declared.methods.Method.{Method}
use Rattle.seam_rules.specs.declared.answers.Axis.{Axis}
use Rattle.seam_rules.specs.Cuts.{last_along}
use Rattle.seam_rules.specs.Axes.{turned_size, grey_of}
use Rattle.seam_turn.specs.Axes.{turned, cut_along}
use Rattle.seam_turn.specs.Turning.{left_work, CloseAlongGiven}
use Rattle.seam_turn.proofs.Served.{close_served}
use Rattle.seam_turn.proofs.Answered.{close_ok}
use Rattle.seam_cut.specs.Cutting.{closed_along}
use Rattle.seam_cut_marked.specs.Axes.{marked_seam_along, blocked_along}
use Rattle.seam_cut_marked.specs.Marking.{closed_marks, searched, cut_there}
use Rattle.seam_cut_marked.specs.Inner.{MarkedSeamGiven, CutMarkedNeeded, CutAlongGiven}
use Rattle.seam_cut_marked.proofs.Buffers.{ok_free}
use Rattle.seam_cut_marked.proofs.Marked.{marked_inside}
use Rattle.seam_cut_marked.proofs.Marks.{grey-bytes, grey-sized, wide-grey, tall_grey, marks-cut}
use Rattle.seam_cut_marked.proofs.Standing.{searched_front, picture_stands, marks_stand}
use Rattle.seam_cut_marked.proofs.cut_marked_along.Goals as goal

ok-given : (v : Result Unit Refusal) → IsOk v → given v ≡ 0
ok-given (Ok u) h = refl
ok-given (Err why) h = absurd (true≢false (sym h))

-- A seam is allowed.
module _ {how : Method} {x : Axis} {z : Size} {b m room work : List ℕ} (p : CutMarkedNeeded b m z x room work)
    {k : ℕ} {seam' : List ℕ} (found : MarkedSeamGiven b m z how x room (Ok k) seam') where
  seam : List ℕ
  seam = marked_seam_along how x z (picture z b) (marks_of z m)

  -- it lies inside the picture,
  inside : Each (λ k. k < (turned_size x z).width) (turned_size x z).height seam
  unfolding seam
  inside = marked_inside how x z (picture z b) (marks_of z m) (not-true (blocked_along how x z (picture z b) (marks_of z m)) (sym (ok_free (blocked_along how x z (picture z b) (marks_of z m)) (Ok k) found.number)))

  -- and is what is lent on of the seam's space,
  module _ {t : Size} (turns : t ≡ turned_size x z) where
    abbrev s : List ℕ
    s = take t.height seam'

    s-is : s ≡ seam
    unfolding seam
    s-is =
        ap (λ (t : Size). take t.height seam') turns
        ∙ ap (take (turned_size x z).height) found.seam_given
        ∙ take_at (marked_seam_along how x z (picture z b) (marks_of z m)) (drop (turned_size x z).height room) (turned_size x z).height (each-length inside)

    sure : Sized z (length b)
    sure = sized_is _ _ p.found.sized

    -- so the marks, which stand turned after the picture, are closed up along it, as a grey picture of its sides,
    module _ (work' : List ℕ) (work-long : length work' ≡ length work)
        (searched-is : work' ≡ searched x z b m work)
        {g : Size} (grey-is : g ≡ grey_of z) {u : Result Unit Refusal} {m' after : List ℕ}
        (marks : CloseAlongGiven m g x s (mid_of (length b) (length work' - length b) work') u m' after) where
      stand : take (picture_bytes z + pixels z) work' ≡ bytes z.kind (turned x z.width (picture z b)) ++ flat (turned x z.width (marks_of z m))
      stand = ap (take (picture_bytes z + pixels z)) searched-is ∙ searched_front x z b m sure.length_is p.found.marked work

      abbrev lent : List ℕ
      lent = mid_of (length b) (length work' - length b) work'

      grey : CloseAlongGiven m (grey_of z) x s lent u m' after
      grey = rw grey-is at marks

      within : Each (λ k. k < (turned_size x (grey_of z)).width) (turned_size x (grey_of z)).height s
      within = rw (s-is, wide-grey x z, tall_grey x z) inside

      sized : refusal (size_rules (grey_of z) (length m)) ≡ 0
      sized = grey-sized z (length b) m sure p.found.marked

      more : last_along x (grey_of z) ≡ false
      more = ap (λ w. eqb w 1) (wide-grey x z) ∙ p.more

      grey-fits : picture_bytes (grey_of z) ≤ length lent
      grey-fits = omega (arith, p.found.work_room, work-long, grey-bytes z, sure.length_is, part_length (length b) (length work') work' (omega arith))

      lent_is : lent ≡ drop (picture_bytes z) work'
      lent_is = last_part (length b) work' ∙ ap (λ n. drop n work') sure.length_is

      grey_stands : picture_in (turned_size x (grey_of z)) lent ≡ turned x z.width (picture (grey_of z) m)
      grey_stands = ap (picture_in (turned_size x (grey_of z))) lent_is ∙ marks_stand x z b m work' sure.length_is p.found.marked stand

      marks_ok : IsOk u
      marks_ok = close_ok m (grey_of z) x s lent u m' after grey sized within more grey-fits

      closed : m' ≡ closed_marks x z seam m
      unfolding pixel_bytes
      closed =
          close_served m (grey_of z) x s lent u m' after grey sized within more grey-fits grey_stands
          ∙ ap₂ ◌++◌
          (ap (λ s. bytes Grey (cut_along x (grey_of z) s (picture (grey_of z) m))) s-is ∙ marks-cut x z m p.found.marked seam)
          (ap (λ n. replicate n 0) (mul-one (turned_size x (grey_of z)).height ∙ tall_grey x z))

      -- and the picture, which still stands turned before them.
      module _ (kept : length after ≡ length lent) {v : Result Unit Refusal} {b' left : List ℕ}
          (closes : CloseAlongGiven b z x s (put_mid (length b) (length work' - length b) work' after) v b' left) where
        abbrev space : List ℕ
        space = put_mid (length b) (length work' - length b) work' after

        fits : picture_bytes z ≤ length space
        fits = omega (arith, p.found.work_room, work-long, same_len_mid (length b) (length work' - length b) work' after kept)

        stands : picture_in (turned_size x z) space ≡ turned x z.width (picture z b)
        stands =
            ap (picture_in (turned_size x z))
            (put_part (length b) (length work') work' after (omega (arith, p.found.work_room, work-long, sure.length_is))
            ∙ ap (λ n. take n work' ++ (after ++ drop (length work') work')) sure.length_is)
            ∙ picture_stands x z b m work' sure.length_is p.found.marked stand (after ++ drop (length work') work')

        picture_ok : IsOk v
        picture_ok = close_ok b z x s space v b' left closes p.found.sized (rw s-is inside) p.more fits

        -- Both are closed up where they stand.
        space-is : space ≡ take (picture_bytes z) work' ++ after
        space-is =
            put_part (length b) (length work') work' after (omega (arith, p.found.work_room, work-long, sure.length_is))
            ∙ ap₂ (λ n r. take n work' ++ (after ++ r)) sure.length_is (drop-length work')
            ∙ ap (take (picture_bytes z) work' ++◌) (append-nil after)

        left-is : left ≡ cut_there x z seam (searched x z b m work)
        left-is =
            closes.work_left
            ∙ ap₂ (left_work x z s) (ok-given v picture_ok) space-is
            ∙ ap (λ y. left_work x z s 0 (take (picture_bytes z) work' ++ y)) (grey.work_left ∙ ap₂ (left_work x (grey_of z) s) (ok-given u marks_ok) lent_is)
            ∙ ap₂ (cut_there x z) s-is searched-is

        both : CutAlongGiven b m z how x room work (Ok k) b' m' seam' left
        unfolding seam
        both =
            record {
              found = found;
              picture_left =
                  close_served b z x s space v b' left closes p.found.sized (rw s-is inside) p.more fits stands
                  ∙ ap (λ s. closed_along x z s b) s-is;
              marks_left = closed;
              work_left = left-is;
            }

pub unwrap-requires : goal.unwrap-requires
unwrap-requires c =
    marks_ok c.requires c.in_ok-cost.ensures.found c.turned_size-turned.ensures c.marked_along.new.work c.marked_along.auto.work
    c.in_ok-cost.ensures.work_left c.grey-marked.ensures c.close.ensures

pub unwrap-requires-2 : goal.unwrap-requires-2
unwrap-requires-2 c =
    picture_ok c.requires c.in_ok-cost.ensures.found c.turned_size-turned.ensures c.marked_along.new.work c.marked_along.auto.work
    c.in_ok-cost.ensures.work_left c.grey-marked.ensures c.close.ensures
    c.close.auto.work c.close-2.ensures

pub returns : goal.returns
returns c =
    both c.requires c.in_ok-cost.ensures.found c.turned_size-turned.ensures c.marked_along.new.work c.marked_along.auto.work
    c.in_ok-cost.ensures.work_left c.grey-marked.ensures c.close.ensures
    c.close.auto.work c.close-2.ensures
