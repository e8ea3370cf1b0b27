-- The number given where nothing up to 8 is, with the map built before the recorded one.
use mathlib.Core.Path.{◌≡◌, refl, sym, ap, ap₂, ◌∙◌}
use mathlib.Core.Bool.{Bool, true, false, cond, not}
use mathlib.Core.List.{List, [], ◌∷◌, ◌++◌}
use Prim.Native.Nat.{ℕ, ◌*◌}
use native.Mathlib.Omega.{arith}
use lib.ListN.{length, take, drop, length-drop}
use lib.Seq.{take_all, length-take-le}
use Rattle.grids.specs.Each.{Grid}
use Rattle.grids.specs.Rows.{flat}
use Rattle.grids.proofs.Rows.{grid-rows_of, flat-rows_of}
use Rattle.grids.proofs.Shapes.{grid_of}
use Rattle.energy.specs.declared.methods.Method.{Method}
use Rattle.energy.specs.Methods.{wrap_of}
use Rattle.seam_theory.specs.Paths.{near}
use Rattle.pictures.specs.declared.sizes.Size.{Size}
use Rattle.pictures.specs.declared.refusals.Refusal.{Refusal}
use Rattle.std.specs.Prelude.{Result}
use Rattle.pictures.specs.Refusals.{◌when◌, given, refusal, served, worked}
use Rattle.pictures.specs.Pictures.{Picture, OfSize, picture_in}
use Rattle.map_theory.specs.Maps.{map_of}
use Rattle.map_theory.specs.Judged.{every, same, numbers, connected, found}
use Rattle.map_theory.proofs.Tests.{same_is}
use Rattle.map_theory.proofs.Maps.{map-grid}
use Rattle.map_theory.proofs.Judged.{judged-map}
use Rattle.map_theory.proofs.Building.{flat-same, judged_rebuilt}
use Rattle.seam_theory.specs.PictureSeams.{seam_of}
use Rattle.pictures.specs.Numbers.{pairs, numbers_in}
use Rattle.map_rules.specs.Spaces.{map_bytes, map_at, recorded_at}
use Rattle.map_rules.proofs.Rooms.{Room, room_is}
use Rattle.map_build.specs.Building.{mapped, MapInGiven}
use Rattle.seam_theory.proofs.Choosing.{seam_chooses}
use Rattle.map_build.proofs.Mapped.{there_of_size, take-map, drop-map}
use Rattle.map_check.specs.Checking.{recorded_in, recorded_rules}
use Rattle.map_check.specs.Inner.Judging.{JudgeNeeded, beside_built}
use Rattle.pictures.proofs.TwoBytes.{numbers-pairs, length-numbers}

module _ {z : Size} (how : Method) {depth : ℕ} (space : List ℕ) (needed : JudgeNeeded z depth (length space)) where
  room : Room z depth (length space)
  room = room_is z depth (length space) needed.served

  -- The picture, the recorded map and its bytes, and the map that it should be.
  abbrev p : Picture
  p = picture_in z space

  abbrev m : List (List ℕ)
  m = recorded_in z space

  abbrev recorded : List ℕ
  recorded = take (map_bytes z) (drop (recorded_at z) space)

  abbrev new : List (List ℕ)
  new = map_of (seam_of how) depth z.width z.height (picture_in z space)

  recorded-long : length recorded ≡ map_bytes z
  recorded-long = length-take-le (map_bytes z) (drop (recorded_at z) space) (omega (arith, length-drop (recorded_at z) space, room.long))

  numbers-long : length (numbers_in recorded) ≡ z.height * z.width
  numbers-long = omega (arith, length-numbers recorded, recorded-long)

  p_of : OfSize z p
  p_of = there_of_size z space (omega (arith, room.long))

  grid-m : Grid z.width z.height m
  grid-m = grid-rows_of z.width z.height (numbers_in recorded) (omega (arith, numbers-long))

  grid-new : Grid z.width z.height new
  grid-new = map-grid (seam_of how) (seam_chooses how) depth z.width z.height p (grid_of p_of) (omega (arith, room.deep))

  flat-m : flat m ≡ numbers_in recorded
  flat-m = flat-rows_of z.width z.height (numbers_in recorded) ∙ take_all (z.height * z.width) (numbers_in recorded) (omega (arith, numbers-long))

  -- Where each row is a numbering, what the comparison with the map built gives.
  compared : every (numbers depth) m ≡ true → (t : Bool) → same (flat m) (flat new) ≡ t
      → cond {A = ℕ} t 0 (cond (connected (near (wrap_of how)) z.width depth m) 11 10) ≡ refusal (recorded_rules z how depth p m)
  compared e true q =
      sym ((judged-map (seam_of how) (seam_chooses how) z.width z.height depth p m (grid_of p_of) grid-m (omega (arith, room.deep))).1 (flat-same grid-m grid-new ((same_is (flat m) (flat new)).0 q)))
  compared e false q = sym (judged_rebuilt (seam_of how) (seam_chooses how) z.width z.height depth p m (grid_of p_of) grid-m (omega (arith, room.deep)) ∙ rw (e, q) (swap (connected (near (wrap_of how)) z.width depth m)))
    where
      swap : (b : Bool) → refusal (10 when not b ∷ 11 when true ∷ []) ≡ cond {A = ℕ} b 11 10
      swap true = refl
      swap false = refl

  pub compared_is : (built : List ℕ) → every (numbers depth) m ≡ true → built ≡ pairs (flat new) → beside_built recorded built z.width z.height depth ≡ refusal (recorded_rules z how depth p m)
  unfolding wrap_of
  compared_is built e is =
      let test : same (numbers_in recorded) (numbers_in built) ≡ same (flat m) (flat new) = ap₂ same (sym flat-m) (ap numbers_in is ∙ numbers-pairs (flat new)) in
      ap (λ a. cond {A = ℕ} a 0 (cond (connected (near false) z.width depth m) 11 10)) test ∙ compared e (same (flat m) (flat new)) refl

  -- The space with the map built in it.
  module _ {answer : Result (Unit {0}) Refusal} {space' : List ℕ} (builds : MapInGiven space z how depth answer space') where
    pub none : given answer ≡ 0
    none = builds.number ∙ needed.served

    space_is : space' ≡ mapped z how depth p ++ drop (recorded_at z) space
    space_is = builds.space_left ∙ ap (λ n. served n (mapped z how depth p ++ drop (recorded_at z) space) space) none

    -- The map built stands before the recorded one, which is left as it was.
    pub built_is : take (map_bytes z) (drop (map_at z) space') ≡ pairs (flat new)
    built_is = ap (λ s. take (map_bytes z) (drop (map_at z) s)) space_is ∙ take-map z how p p_of depth room.deep (drop (recorded_at z) space)

    pub recorded_left : take (map_bytes z) (drop (recorded_at z) space') ≡ recorded
    recorded_left = ap (λ s. take (map_bytes z) (drop (recorded_at z) s)) space_is ∙ ap (take (map_bytes z)) (drop-map z how p p_of depth room.deep (drop (recorded_at z) space))

-- After success and after 9, 10 and 11 it is the first.
pub worked-judged : {A : Type 0} (z : Size) (how : Method) (depth : ℕ) (p : Picture) (m : List (List ℕ)) (x y : A) → worked (refusal (recorded_rules z how depth p m)) x y ≡ x
worked-judged {A} z how depth p m x y = go (not (every (numbers depth) m)) (not (connected (near (wrap_of how)) z.width depth m)) (not (found (seam_of how) z.width z.height depth p m))
  where
    go : (a b c : Bool) → worked (refusal (9 when a ∷ 10 when b ∷ 11 when c ∷ [])) x y ≡ x
    go true b c = refl
    go false true c = refl
    go false false true = refl
    go false false false = refl
