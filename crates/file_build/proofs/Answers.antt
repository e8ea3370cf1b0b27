-- The whole operation: what the rules say of range and buffers, and the file that stands in the output space.
use mathlib.Core.Path.{◌≡◌, refl, ap, ◌∙◌}
use mathlib.Core.Bool.{true, not, cond, ◌&&◌}
use mathlib.Core.List.{List, [], ◌∷◌, ◌++◌}
use Prim.Native.Nat.{ℕ, ◌-◌, ◌/◌, ◌≤◌, ◌<◌}
use native.Mathlib.Omega.{arith}
use borrow.Author.Tests.{ltb-true, ltb-false, not-false}
use lib.Dec.{leb, ltb}
use lib.ListN.{length, take, drop, replicate}
use lib.Seq.{take_at, length_front}
use Rattle.grids.specs.Rows.{flat}
use Rattle.grids.proofs.Shapes.{grid_of}
use Rattle.pictures.specs.declared.sizes.Size.{Size}
use Rattle.std.specs.Prelude.{Result, Ok, Err, IsOk}
use Rattle.pictures.specs.declared.refusals.Refusal.{Refusal}
use Rattle.pictures.specs.Refusals.{◌when◌, given, refusal, served}
use Rattle.pictures.specs.Pictures.{picture_bytes, side_rules, size_rules, picture, picture_in, work_bytes}
use Rattle.grids.proofs.Bools.{both}
use Rattle.pictures.proofs.Rules.{served-both, passed, number-some}
use Rattle.pictures.proofs.Limits.{Sized, sized_is, sides_served, given_out}
use Rattle.map_theory.specs.Maps.{map_of}
use Rattle.map_theory.specs.Widths.{allowed}
use Rattle.map_theory.proofs.Maps.{map-grid}
use Rattle.text_theory.specs.declared.Head.{Head}
use Rattle.text_theory.specs.Files.{text}
use Rattle.pictures.specs.Numbers.{pairs}
use Rattle.pictures.proofs.TwoBytes.{rows-pairs}
use Rattle.map_rules.specs.Spaces.{map_bytes, map_at, recorded_at, map_space_rules}
use Rattle.map_rules.proofs.Rooms.{room-served}
use Rattle.map_build.specs.Building.{mapped, MapInGiven}
use Rattle.map_build.proofs.Mapped.{take-map}
use Rattle.file_theory.specs.Contents.{choose_of, file_of}
use Rattle.file_theory.proofs.Heads.{head_chooses}
use Rattle.file_theory.specs.Rules.{work_rule}
use Rattle.file_build.specs.Building.{file_in}
use Rattle.file_build.specs.Inner.Lines.{map_in, parts_in}
use Rattle.file_build.specs.Inner.Building.{BuildNeeded, FileGiven}
use Rattle.file_build.proofs.PictureRows.{of_size_lem}

-- An answer whose number is 0.
ok_is : (v : Result (Unit {0}) Refusal) → given v ≡ 0 → IsOk v
ok_is (Ok u) e = refl
ok_is (Err why) e = absurd (omega (arith, e, number-some why))

-- A depth that is allowed is below the width.
pub allowed-deep : (m k g : ℕ) → allowed m k g ≡ true → k < m
unfolding allowed
allowed-deep m k g e = ltb-true k m (both (ltb k m) (leb g k && leb g (m / 2)) e).0

module _ (b : List ℕ) (h : Head) (out work : List ℕ) (needed : BuildNeeded b h out work) where
  abbrev z : Size
  z = h.size

  abbrev m : List (List ℕ)
  m = map_of (choose_of h) h.depth h.size.width h.size.height (picture h.size b)

  pub record Rooms : Type 0 where
    pub sized : refusal (size_rules z (length b)) ≡ 0
    pub sure : Sized z (length b)
    pub deep : h.depth < h.size.width
    pub out_room : length (file_in h b) ≤ length out
    pub room : work_bytes h.size ≤ length work

  pub rooms_are : Rooms
  rooms_are =
      let rules = 6 when not (allowed h.size.width h.depth h.growth) ∷ 8 when ltb (length out) (length (file_in h b)) ∷ work_rule h.size (length work) ∷ [] in
      let parts = served-both (size_rules h.size (length b)) rules refl needed.served in
      let last : ℕ = cond (ltb (length work) (work_bytes h.size)) 8 0 in
      let second : ℕ = cond (ltb (length out) (length (file_in h b))) 8 last in
      let p1 = passed (not (allowed h.size.width h.depth h.growth)) 5 second parts.1 in
      let p2 = passed (ltb (length out) (length (file_in h b))) 7 last p1.1 in
      let p3 = passed (ltb (length work) (work_bytes h.size)) 7 0 p2.1 in
      record {
        sized = parts.0;
        sure = sized_is h.size (length b) parts.0;
        deep = allowed-deep _ _ _ (not-false (allowed h.size.width h.depth h.growth) p1.0);
        out_room = ltb-false _ _ p2.0;
        room = ltb-false _ _ p3.0;
      }

  -- The copy at the front of the work space, and the map that is built there.
  module _ (new : List ℕ) (copied : new ≡ b) (kept : length new ≡ length (take (length b) work)) where
    abbrev one : List ℕ
    one = new ++ drop (length b) work

    one-long : length one ≡ length work
    one-long = length_front work new (length b) kept

    there : picture_in h.size one ≡ picture h.size b
    there = let r = rooms_are in ap (picture h.size) (rw copied (take_at b (drop (length b) work) (picture_bytes h.size) r.sure.length_is))

    none : refusal (map_space_rules h.size h.depth (length one)) ≡ 0
    none = let r = rooms_are in room-served h.size h.depth (length one) (sides_served h.size (length b) r.sized) r.deep (omega (arith, r.room, one-long))

    module _ {v : Result (Unit {0}) Refusal} {two : List ℕ} (g : MapInGiven (new ++ drop (length b) work) h.size h.method h.depth v two) where
      number : given v ≡ 0
      number = g.number ∙ none

      pub map_is_ok : IsOk v
      map_is_ok = ok_is v number

      two_is : two ≡ mapped h.size h.method h.depth (picture h.size b) ++ drop (recorded_at h.size) one
      two_is =
          let new = mapped h.size h.method h.depth (picture_in h.size one) ++ drop (recorded_at h.size) one in
          g.space_left ∙ ap (λ n. served n new one) number
          ∙ ap (λ p. mapped h.size h.method h.depth p ++ drop (recorded_at h.size) one) there

      -- The part where the map stands.
      module _ {at end : ℕ} (at_given : at ≡ served (refusal (side_rules h.size)) (map_at h.size) 0) (end_given : end ≡ served (refusal (side_rules h.size)) (recorded_at h.size) 0) where
        at-is : at ≡ map_at h.size
        at-is = given_out h.size at (map_at h.size) (sides_served h.size (length b) rooms_are.sized) at_given

        end_is : end ≡ recorded_at h.size
        end_is = given_out h.size end (recorded_at h.size) (sides_served h.size (length b) rooms_are.sized) end_given

        part-is : take (end - at) (drop at two) ≡ pairs (flat m)
        part-is =
            let r = rooms_are in
            let l : end - at ≡ map_bytes h.size = omega (arith, at-is, end_is) in
            rw (l, at-is, two_is) (take-map h.size h.method (picture h.size b) (of_size_lem h.size b r.sized) h.depth r.deep (drop (recorded_at h.size) one))

        -- The file printed from it.
        text_is : text (parts_in h b h.size.width h.size.height (take (end - at) (drop at two))) ≡ file_in h b
        unfolding file_of
        text_is =
            let r = rooms_are in
            let g = map-grid (choose_of h) (head_chooses h) h.depth h.size.width h.size.height (picture h.size b) (grid_of (of_size_lem h.size b r.sized)) (omega (arith, r.deep)) in
            ap (λ q. text (record { head = h; rows = picture h.size b; maps = q }))
            (ap (map_in h.size.width h.size.height) part-is ∙ rows-pairs g)

        pub text-room : length (text (parts_in h b h.size.width h.size.height (take (end - at) (drop at two)))) ≤ length out
        text-room = rw text_is rooms_are.out_room

        -- The output space with the file at its front, and the work space cleared.
        pub file-given : length two ≡ length one → {long : ℕ} {out' work' : List ℕ} → long ≡ length (text (parts_in h b h.size.width h.size.height (take (end - at) (drop at two))))
            → out' ≡ text (parts_in h b h.size.width h.size.height (take (end - at) (drop at two))) ++ drop (length (text (parts_in h b h.size.width h.size.height (take (end - at) (drop at two))))) out
            → work' ≡ replicate (length two) 0 → FileGiven b h out work long out' work'
        file-given two-long l printed cleared = record {
          length_is = l ∙ ap length text_is;
          out_is = printed ∙ ap (λ t. t ++ drop (length t) out) text_is;
          work_is = cleared ∙ ap (λ k. replicate k 0) (two-long ∙ one-long);
        }
