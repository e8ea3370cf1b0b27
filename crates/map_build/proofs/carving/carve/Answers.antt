-- `map_build::carving::carve` meets its contract: no seam at all, the planes before the first seam, one seam more, and the picture packed.
use mathlib.Core.Path.{◌≡◌, refl, sym, ap, ◌∙◌}
use mathlib.Core.List.{◌++◌}
use Prim.Native.Nat.{ℕ, ◌-◌, ◌*◌, ◌≤◌}
use native.Mathlib.Omega.{arith}
use lib.ListN.{length, take, replicate}
use lib.Seq.{take-append-le}
use native.Mathlib.Nat.{mul-le-mul_left, mul-le-mul_right}
use Rattle.pictures.specs.Numbers.{pairs}
use Rattle.grids.specs.Rows.{flat}
use Rattle.pictures.specs.Pictures.{pixel_bytes, bytes, picture, picture_bytes, picture_in, pixels}
use Rattle.seam_keep.specs.Keeping.{FillAsked, StepsAsked}
use Rattle.pictures.proofs.Limits.{bytes-few}
use Rattle.map_rules.specs.Spaces.{map_bytes}
use Rattle.map_rules.proofs.Rooms.{picture_room}
use Rattle.map_build.specs.Inner.Carving.{PlanesSized}
use Rattle.map_build.proofs.Mapped.{there_of_size}
use Rattle.map_build.proofs.Carved.{carved_none, carved_start, carved_turn, map_is}
use Rattle.map_build.proofs.carving.carve.Goals as goal
use Rattle.map_build.proofs.carving.carve.Goals.{After-split_at_mut-columns}

-- the planes are as long as they must be
sized : (c : After-split_at_mut-columns) → PlanesSized c.args.allowed.size (length c.split_at_mut-picture.result.0.now) (length c.split_at_mut-up.result.0.now) (length c.split_at_mut-left.result.0.now) (length c.split_at_mut-right.result.0.now)
    (length c.split_at_mut-columns.result.0.now) (length c.args.map.now)
sized c = record {
  sides = c.requires.sides;
  picture_long = c.split_at_mut-picture.ensures.front_len ∙ c.picture_bytes.ensures.0;
  up_long = c.split_at_mut-up.ensures.front_len ∙ ap (2 *◌) c.pixels-plane.ensures.0;
  left_long = c.split_at_mut-left.ensures.front_len ∙ ap (2 *◌) c.pixels-plane.ensures.0;
  right_long = c.split_at_mut-right.ensures.front_len ∙ ap (2 *◌) c.pixels-plane.ensures.0;
  columns_long = c.split_at_mut-columns.ensures.front_len ∙ ap (2 *◌) c.pixels-plane.ensures.0;
  map_long = c.requires.map_long;
}

-- the sums have what is left of the room
room : (c : After-split_at_mut-columns) → 8 * pixels c.args.allowed.size ≤ length c.split_at_mut-columns.result.1.now
room c =
    let z = c.args.allowed.size in
    omega (
      arith,
      c.requires.room,
      bytes-few z,
      c.picture_bytes.ensures.0,
      c.pixels-plane.ensures.0,
      c.split_at_mut-picture.ensures.back_len,
      c.split_at_mut-up.ensures.back_len,
      c.split_at_mut-left.ensures.back_len,
      c.split_at_mut-right.ensures.back_len,
      c.split_at_mut-columns.ensures.back_len,
    )

pub returns-then-depth-eq0 : goal.returns-then-depth-eq0
returns-then-depth-eq0 c =
    let a = c.args in
    let z = a.allowed.size in
    rw c.if-depth-eq0.true
    (carved_none z a.method a.work.now c.clear.new.space (omega (arith, picture_room z, c.requires.room)) (λ i. omega (arith, c.type_inv.work i))
    (c.clear.auto.space ∙ c.requires.map_long)
    (c.clear.ensures ∙ ap (λ k. replicate k 0) (sym c.clear.auto.space)))

pub loop-t-init : goal.loop-t-init
loop-t-init c =
    let z = c.args.allowed.size in
    let split = (goal.at.loop-t-init c).After-split_at_mut-columns in
    let s = sized split in
    let f = c.fill_costs in
    let there : picture_in z c.args.work.now ≡ picture z c.split_at_mut-picture.result.0.now =
    sym (ap (picture z) (c.split_at_mut-picture.ensures.front ∙ ap (λ k. take k c.args.work.now) c.picture_bytes.ensures.0)) in
    let asked : (x : ℕ) → x ≡ map_bytes z → FillAsked z (length c.split_at_mut-picture.result.0.now) x = λ x e. record { sides = s.sides; long = s.picture_long; room = e } in
    let all : StepsAsked z (length c.split_at_mut-picture.result.0.now) (length c.split_at_mut-up.result.0.now) (length c.split_at_mut-left.result.0.now) (length c.split_at_mut-right.result.0.now) = record { up_asked = asked _ s.up_long; left_asked = asked _ s.left_long; right_asked = asked _ s.right_long } in (
      room split,
      λ i. omega (arith, c.type_inv.map i),
      rw there
          (carved_start z c.args.method c.split_at_mut-picture.result.0.now f.new.up f.new.left f.new.right c.fill_columns.new.columns c.clear-2.new.space
          record {
            sides = s.sides;
            picture_long = s.picture_long;
            up_long = f.ensures.long.0 ∙ s.up_long;
            left_long = f.ensures.long.1 ∙ s.left_long;
            right_long = f.ensures.long.2 ∙ s.right_long;
            columns_long = c.fill_columns.ensures.long ∙ s.columns_long;
            map_long = c.clear-2.auto.space ∙ s.map_long;
          }
          (f.ensures.up (asked _ s.up_long))
          (λ o. (f.ensures.steps o all).0)
          (λ o. (f.ensures.steps o all).1)
          c.fill_columns.ensures.all
          (c.clear-2.ensures ∙ ap (λ k. replicate k 0) (sym c.clear-2.auto.space))),
    )

pub loop-t-preserved : goal.loop-t-preserved
loop-t-preserved c =
    let a = c.args in
    let l = c.loop-t in
    let n = c.next_seam-is_narrow in
    let z = a.allowed.size in (
      omega (arith, l.invariant.0, n.auto.sums),
      λ i. omega (arith, c.type_inv.map i),
      carved_turn z a.method (picture_in z a.work.now) (there_of_size z a.work.now (omega (arith, c.requires.room))) l.t _ l.picture l.up l.left l.right l.columns l.map n.new.picture n.new.up n.new.left n.new.right n.new.columns n.new.map
          (omega (arith, c.loop-t-test.true, c.requires.deep)) refl l.invariant.2 n.ensures,
    )

pub returns : goal.returns
returns c =
    let a = c.args in
    let l = c.loop-t in
    let z = a.allowed.size in
    let last : l.t ≡ a.depth = omega (arith, c.loop-t-test.false, l.auto.t-end) in
    let k = rw last at l.invariant.2 in
    let less : z.height * ((z.width - a.depth) * pixel_bytes z.kind) ≤ picture_bytes z = mul-le-mul_left z.height (mul-le-mul_right (pixel_bytes z.kind) (omega arith)) in
    let left : z.width - a.depth ≤ z.width = omega arith in
    record {
      packed =
          take-append-le (z.height * ((z.width - a.depth) * pixel_bytes z.kind)) c.pack_picture.new.picture (l.up ++ (l.left ++ (l.right ++ (l.columns ++ l.sums))))
          (omega (arith, less, c.pack_picture.ensures.long, k.sized.picture_long))
          ∙ c.pack_picture.ensures.packed (k.sized.sides, left, k.sized.picture_long) ∙ ap (bytes z.kind) k.picture_left;
      map_given = map_is z l.map k.sized.map_long l.invariant.1 ∙ ap (λ m. pairs (flat m)) k.numbered;
    }
