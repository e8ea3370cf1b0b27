-- `seam_cut::cut_along` meets its contract: the seam found lies inside the picture, so closing it up is served.
use Rattle.std.proofs.Common.{◌≡◌, List, ◌++◌, ℕ, ◌<◌, ◌≤◌, cond, length, take, drop, refl, ap, sym, ◌∙◌, take_at, arith}
use Rattle.grids.specs.Each.{Each}
use Rattle.grids.proofs.Shapes.{each-length}
use Rattle.pictures.specs.declared.sizes.Size.{Size}
use Rattle.pictures.specs.Pictures.{picture_bytes, picture}
use Rattle.pictures.proofs.Rules.{served-first}
use Rattle.pictures.proofs.Limits.{sized_is, bytes-few}
use Rattle.energy.specs.declared.methods.Method.{Method}
use Rattle.seam_rules.specs.declared.answers.Axis.{Axis}
use Rattle.seam_rules.specs.Axes.{turned_size}
use Rattle.seam_rules.specs.Cuts.{find_rules, last_rules}
use Rattle.seam_cut.specs.Axes.{seam_along}
use Rattle.seam_cut.specs.Cutting.{closed_along}
use Rattle.seam_cut.specs.Inner.{CutNeeded}
use Rattle.seam_rules.proofs.Rooms.{FindRoom, find_room}
use Rattle.seam_turn.proofs.Served.{close_served}
use Rattle.seam_turn.proofs.Answered.{close_ok}
use Rattle.seam_cut.proofs.Inside.{along_inside}
use Rattle.seam_cut.proofs.cut_along.Goals as goal

module _ (how : Method) (x : Axis) (z : Size) (b room work : List ℕ) (needed : CutNeeded b z x room work) where
  rooms : FindRoom x z (length b) (length room) (length work)
  rooms = find_room x z (length b) (length room) (length work) needed.found

  -- the seam found lies inside the picture,
  seam : List ℕ
  seam = seam_along how x z (picture z b)

  inside : Each (λ k. k < (turned_size x z).width) (turned_size x z).height seam
  unfolding seam
  inside = along_inside how x z (length b) (picture z b) (sized_is _ _ rooms.sized)

  -- and is what is lent of the space that it was put into
  lent : (t : Size) → t ≡ turned_size x z → (seam' : List ℕ) → seam' ≡ seam_along how x z (picture z b) ++ drop (turned_size x z).height room → take t.height seam' ≡ seam
  unfolding seam
  lent t is seam' given =
      ap (λ (t : Size). take t.height seam') is
      ∙ ap (take (turned_size x z).height) given
      ∙ take_at (seam_along how x z (picture z b)) (drop (turned_size x z).height room) (turned_size x z).height (each-length inside)

  fits : (now : List ℕ) → length now ≡ length work → picture_bytes z ≤ length now
  fits now kept = omega (arith, bytes-few z, rooms.work_room, kept)

pub unwrap-requires : goal.unwrap-requires
unwrap-requires c =
    let a = c.args in
    let q = c.seam_along-cost in
    let r = rooms a.method a.axis a.size a.picture.now a.seam.now a.work.now c.requires in
    let s = lent a.method a.axis a.size a.picture.now a.seam.now a.work.now c.requires c.turned_size-turned.result c.turned_size-turned.ensures q.new.seam q.ensures.found.seam_given in
    close_ok a.picture.now a.size a.axis (take c.turned_size-turned.result.height q.new.seam) q.new.work c.close.result c.close.new.picture c.close.new.work c.close.ensures
    r.sized (rw s (inside a.method a.axis a.size a.picture.now a.seam.now a.work.now c.requires)) c.requires.more
    (fits a.method a.axis a.size a.picture.now a.seam.now a.work.now c.requires q.new.work q.auto.work)

pub returns : goal.returns
unfolding seam
returns c =
    let a = c.args in
    let x = a.axis in
    let z = a.size in
    let b = a.picture.now in
    let q = c.seam_along-cost in
    let f = q.ensures.found in
    let r = rooms a.method x z b a.seam.now a.work.now c.requires in
    let s = lent a.method x z b a.seam.now a.work.now c.requires c.turned_size-turned.result c.turned_size-turned.ensures q.new.seam f.seam_given in
    let k =
    close_served b z x (take c.turned_size-turned.result.height q.new.seam) q.new.work c.close.result c.close.new.picture c.close.new.work c.close.ensures
    r.sized (rw s (inside a.method x z b a.seam.now a.work.now c.requires)) c.requires.more
    (fits a.method x z b a.seam.now a.work.now c.requires q.new.work q.auto.work) q.ensures.stands
    in
    let rules = find_rules x z (length b) (length a.seam.now) (length a.work.now) in
    let allowed = served-first rules (last_rules x z) refl c.requires.found ∙ ap (λ t. cond t 13 0) c.requires.more in
    record {
      number = sym allowed;
      cost = f.cost;
      picture_left = k ∙ ap (λ s. closed_along x z s b) s;
      seam_given = f.seam_given;
      work_left = refl;
    }
