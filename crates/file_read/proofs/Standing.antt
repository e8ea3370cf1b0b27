-- The picture and the recorded map of a file, standing in the work space where they are judged.
use mathlib.Core.Path.{◌≡◌, refl, sym, ap, ap₂, ◌∙◌}
use mathlib.Core.Bool.{◌&&◌}
use mathlib.Core.List.{List, ◌++◌, append-nil}
use Prim.Native.Nat.{ℕ, ◌-◌, ◌/◌, ◌≤◌, ◌<◌}
use native.Mathlib.Omega.{arith}
use borrow.Author.Tests.{ltb-true}
use borrow.Rule.Slice.PartMut.{put_mid, mid_of, same_len_mid}
use lib.Dec.{leb, ltb}
use lib.ListN.{length, take, drop, replicate, drop_of_length-le}
use lib.Seq.{take_at, drop_at, take-take, take-append-le, length-take-le}
use Rattle.grids.specs.Rows.{rows_of, flat}
use Rattle.grids.proofs.Parts.{put_part, part_length}
use Rattle.std.specs.Prelude.{Result}
use Rattle.pictures.specs.declared.refusals.Refusal.{Refusal}
use Rattle.pictures.specs.Refusals.{given, refusal, worked}
use Rattle.pictures.specs.Pictures.{picture_bytes, picture, bytes, picture_in, work_bytes}
use Rattle.grids.proofs.Bools.{both}
use Rattle.pictures.proofs.Rules.{served-first}
use Rattle.pictures.proofs.Buffers.{picture_bytes_lem, length-bytes}
use Rattle.map_theory.specs.Widths.{allowed}
use Rattle.pictures.specs.Numbers.{pairs, numbers_in}
use Rattle.pictures.proofs.TwoBytes.{rows-pairs}
use Rattle.map_rules.specs.Spaces.{map_bytes, map_space_rules, recorded_at}
use Rattle.map_rules.proofs.Rooms.{picture_room, room-served}
use Rattle.map_check.specs.Checking.{recorded_in, recorded_rules, JudgeInGiven}
use Rattle.map_check.proofs.Answers.{worked-judged}
use Rattle.text_theory.specs.declared.Head.{Head}
use Rattle.text_theory.specs.Files.{parse}
use Rattle.file_theory.specs.Shows.{rows_in, bytes_in, maps_in}
use Rattle.file_read.specs.Inner.Checking.{judged_in, MapJudged}
use Rattle.file_read.proofs.Parsed.{Parsed}
use Rattle.file_read.proofs.Places.{bytes-are, pairs-long}

module _ (file : List ℕ) (h : Head) (k : Parsed file h) (work : List ℕ) (room : work_bytes h.size ≤ length work) where
  deep : h.depth < h.size.width
  unfolding allowed
  deep = ltb-true _ _ (both (ltb h.depth h.size.width) (leb h.growth h.depth && leb h.growth (h.size.width / 2)) k.range).0

  -- So nothing up to 8 refuses a space as long as this one.
  none-refused : (n : ℕ) → n ≡ length work → refusal (map_space_rules h.size h.depth n) ≡ 0
  none-refused n e = room-served h.size h.depth n k.sides_served deep (omega (arith, e, room))

  -- The picture at the front, and the recorded map in its part of the space.
  module _ (first : List ℕ) (as_long : length first ≡ length work) (is : first ≡ bytes_in (parse file) ++ drop (picture_bytes h.size) work)
      (at e : ℕ) (starts : at ≡ recorded_at h.size) (ends : e ≡ work_bytes h.size)
      (new : List ℕ) (kept : length new ≡ length (mid_of at (e - at) first)) (recorded : new ≡ pairs (flat (maps_in (parse file))) ++ drop (length (pairs (flat (maps_in (parse file))))) (mid_of at (e - at) first)) where
    abbrev whole : List ℕ
    whole = put_mid at (e - at) first new

    whole_is : whole ≡ take at first ++ (new ++ drop e first)
    whole_is = put_part at e first new (omega (arith, starts, ends))

    front : length (take at first) ≡ at
    front = length-take-le at first (omega (arith, starts, room, as_long))

    new_is : new ≡ pairs (flat (maps_in (parse file)))
    new_is =
        let part = mid_of at (e - at) first in
        recorded
        ∙ ap (pairs (flat (maps_in (parse file))) ++◌)
        (drop_of_length-le part {i = length (pairs (flat (maps_in (parse file))))} (omega (arith, starts, ends, pairs-long k, part_length at e first (omega (arith, ends, room, as_long)))))
        ∙ append-nil (pairs (flat (maps_in (parse file))))

    new-long : length new ≡ map_bytes h.size
    new-long = ap length new_is ∙ pairs-long k

    picture_there : picture_in h.size whole ≡ rows_in (parse file)
    picture_there =
        let n = picture_bytes h.size in
        let p = rows_in (parse file) in
        ap (picture h.size)
        (ap (take n) whole_is ∙ take-append-le n (take at first) (new ++ drop e first) (omega (arith, front, starts, picture_room h.size)) ∙ take-take n at first (omega (arith, starts, picture_room h.size))
        ∙ ap (take n) (is ∙ ap (◌++ drop n work) (bytes-are k)) ∙ take_at (bytes h.size.kind p) (drop n work) n (length-bytes h.size p k.of_size))
        ∙ picture_bytes_lem h.size p k.of_size

    maps-there : recorded_in h.size whole ≡ maps_in (parse file)
    maps-there =
        ap (λ b. rows_of h.size.width h.size.height (numbers_in b))
        (ap (take (map_bytes h.size)) (ap₂ drop (sym starts) whole_is ∙ drop_at (take at first) (new ++ drop e first) at front)
        ∙ take_at new (drop e first) (map_bytes h.size) new-long ∙ new_is)
        ∙ rows-pairs k.maps_grid

    -- So judging it there judges the map of the file.
    pub map-judged : (v : Result (Unit {0}) Refusal) (work' : List ℕ) → JudgeInGiven whole h.size h.method h.depth v work' → MapJudged file work v work'
    map-judged v work' g =
        let same : length whole ≡ length work = same_len_mid at (e - at) first new kept ∙ as_long in
        let number : given v ≡ refusal (recorded_rules h.size h.method h.depth (picture_in h.size whole) (recorded_in h.size whole)) =
        g.number
        ∙ served-first (map_space_rules h.size h.depth (length whole)) (recorded_rules h.size h.method h.depth (picture_in h.size whole) (recorded_in h.size whole)) refl (none-refused (length whole) same) in
        record {
          number = number ∙ ap₂ (λ p m. refusal (recorded_rules h.size h.method h.depth p m)) picture_there maps-there ∙ sym (ap (λ q. refusal (judged_in q)) k.parsed);
          work_left =
              g.space_left ∙ ap (λ n. worked n (replicate (length whole) 0) whole) number
              ∙ worked-judged h.size h.method h.depth (picture_in h.size whole) (recorded_in h.size whole) (replicate (length whole) 0) whole ∙ ap (λ n. replicate n 0) same;
        }
