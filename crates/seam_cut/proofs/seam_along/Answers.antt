-- `seam_cut::seam_along` meets its contract: turning is served, and the seam is found in the picture that then stands at the
-- front of the work space.
use Rattle.std.proofs.Common.{◌≡◌, List, ℕ, Result, ◌++◌, ◌+◌, ◌≤◌, length, take, drop, replicate, take_at, length-take-le, refl, ap, sym, ◌∙◌, arith}
use Rattle.pictures.specs.declared.refusals.Refusal.{Refusal}
use Rattle.pictures.specs.declared.sizes.Size.{Size}
use Rattle.pictures.specs.Pictures.{picture_bytes, picture, bytes, pixels, picture_in}
use Rattle.pictures.proofs.Limits.{sized_is, bytes-few}
use Rattle.energy.specs.declared.methods.Method.{Method}
use Rattle.seam_theory.specs.PictureSeams.{seam_of, cost_of}
use Rattle.seam_find.specs.Finding.{FindInGiven}
use Rattle.seam_rules.specs.Answers.{found_cost}
use Rattle.seam_rules.specs.Axes.{turned_size}
use Rattle.seam_rules.specs.declared.answers.Axis.{Axis}
use Rattle.seam_turn.specs.Axes.{turned}
use Rattle.seam_cut.specs.Axes.{seam_along, cost_along}
use Rattle.seam_cut.specs.Inner.{FindNeeded}
use Rattle.seam_rules.proofs.Turns.{turned-bytes, turned-pixels, turned-sides}
use Rattle.seam_rules.proofs.Rooms.{FindRoom, find_room}
use Rattle.seam_close.proofs.Answered.{is_served}
use Rattle.seam_turn.proofs.Turned.{turned-picture}
use Rattle.seam_turn.proofs.Served.{turn_served}
use Rattle.seam_turn.proofs.Answered.{turn_ok}
use Rattle.seam_cut.proofs.FindIn.{FoundThere, find_served}
use Rattle.seam_cut.proofs.seam_along.Goals as goal

module _ (x : Axis) (z : Size) (b seam work : List ℕ) (needed : FindNeeded b z x seam work) where
  -- the buffers have room
  rooms : FindRoom x z (length b) (length seam) (length work)
  rooms = find_room x z (length b) (length seam) (length work) needed.found

  fits : picture_bytes z ≤ length work
  fits = omega (arith, bytes-few z, rooms.work_room)

  -- in the picture turned, which stands at the front of the work space, the seam is found
  there : (front : List ℕ) → length front ≡ length work → (how : Method) (t : Size) → t ≡ turned_size x z → (answer : Result ℕ Refusal) (front' seam' : List ℕ)
      → FindInGiven front t how seam answer front' seam' → FoundThere front (turned_size x z) how seam answer front' seam'
  there front kept how t turns answer front' seam' found =
      find_served front (turned_size x z) how seam answer front' seam' (rw turns at found)
      (turned-sides x z (length b) (sized_is _ _ rooms.sized)) rooms.seam_room
      (omega (arith, turned-bytes x z, turned-pixels x z, bytes-few z, rooms.work_room, kept))

pub unwrap-requires : goal.unwrap-requires
unwrap-requires c =
    let a = c.args in
    let r = rooms a.axis a.size a.picture.now a.seam.now a.work.now c.requires in
    turn_ok a.picture.now a.size a.axis a.work.now c.turn.new.to c.turn.result c.turn.ensures r.sized
    (fits a.axis a.size a.picture.now a.seam.now a.work.now c.requires)

pub unwrap-requires-2 : goal.unwrap-requires-2
unwrap-requires-2 c =
    let a = c.args in
    let f = c.find_in in
    is_served f.result
    (there a.axis a.size a.picture.now a.seam.now a.work.now c.requires c.turn.new.to c.turn.auto.to a.method
    c.turned_size-turned.result c.turned_size-turned.ensures f.result f.new.space f.new.seam f.ensures).number

pub returns : goal.returns
unfolding seam_along cost_along
returns c =
    let a = c.args in
    let z = a.size in
    let b = a.picture.now in
    let t = turned_size a.axis z in
    let front = c.turn.new.to in
    let f = c.find_in in
    let r = rooms a.axis z b a.seam.now a.work.now c.requires in
    let sure = sized_is _ _ r.sized in
    -- what turning leaves in the work space
    let turned_is : front ≡ bytes z.kind (turned a.axis z.width (picture z b)) ++ drop (picture_bytes z) a.work.now =
    turn_served b z a.axis a.work.now front c.turn.result c.turn.ensures r.sized
    (fits a.axis z b a.seam.now a.work.now c.requires)
    in
    let known =
    there a.axis z b a.seam.now a.work.now c.requires front c.turn.auto.to a.method
    c.turned_size-turned.result c.turned_size-turned.ensures f.result f.new.space f.new.seam f.ensures
    in
    let seen : picture_in t front ≡ turned a.axis z.width (picture z b) =
    turned-picture a.axis z b front (drop (picture_bytes z) a.work.now) sure.length_is turned_is
    in
    let long : length (take (picture_bytes t) front) ≡ picture_bytes t =
    length-take-le (picture_bytes t) front (omega (arith, turned-bytes a.axis z, bytes-few z, r.work_room, c.turn.auto.to))
    in
    record {
      found = record {
        number = sym c.requires.found;
        cost = sym (ap found_cost c.unwrap-2.ensures) ∙ known.cost ∙ ap (cost_of a.method t.width t.height) seen;
        seam_given = known.seam_given ∙ ap (λ p. seam_of a.method t.width t.height p ++ drop t.height a.seam.now) seen;
        work_left = refl;
      };
      -- the seam was found without it being changed
      stands =
          ap (picture_in t) known.space_left
          ∙ ap (picture t) (take_at (take (picture_bytes t) front) (replicate (pixels t) 0 ++ drop (picture_bytes t + pixels t) front) (picture_bytes t) long)
          ∙ seen;
    }
