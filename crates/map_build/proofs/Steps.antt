-- One seam more: what is kept before it says which seam is found and where its number goes, and is kept again after it.
use mathlib.Core.Path.{◌≡◌, refl, sym, ap, ap₂, ◌∙◌}
use mathlib.Core.Bool.{true}
use mathlib.Core.List.{List, [], ◌++◌, map, append-nil}
use Prim.Native.Nat.{ℕ, suc, ◌+◌, ◌-◌, ◌*◌, ◌<◌}
use native.Mathlib.Omega.{arith}
use lib.ListN.{length, get_or, drop, drop_of_length-le}
use Rattle.grids.specs.Each.{Each, Grid}
use Rattle.grids.specs.Cut.{cut}
use Rattle.grids.proofs.Shapes.{each-length, each_at, grid_of, get_or-map}
use Rattle.grids.proofs.Tables.{length-table, table_at}
use Rattle.pictures.specs.Numbers.{numbers_in}
use Rattle.pictures.proofs.TwoBytes.{length-numbers}
use Rattle.grids.proofs.Rows.{grid-rows_of}
use Rattle.pictures.specs.declared.sizes.Size.{Size}
use Rattle.pictures.specs.Pictures.{Picture, channels_of, picture}
use Rattle.pictures.proofs.Buffers.{picture-of_size}
use Rattle.pictures.proofs.Limits.{Sides, sides_are}
use Rattle.energy.specs.declared.methods.Method.{Method}
use Rattle.energy.specs.declared.pixels.Step.{Step}
use Rattle.energy.specs.declared.pixels.Step.TheVariants.{Up, Left, Right}
use Rattle.energy.specs.Energy.{one_cost}
use Rattle.energy.specs.Methods.{wrap_of}
use Rattle.seam_theory.specs.Connected.{linked}
use Rattle.seam_theory.specs.Paths.{near}
use Rattle.seam_theory.specs.PictureSeams.{seam_of}
use Rattle.seam_theory.proofs.Choosing.{seam_chooses}
use Rattle.seam_planes.specs.Planes.{fronts, numbers_of, NumbersSeam, PictureSeam}
use Rattle.seam_planes.proofs.Fronts.{fronts_grid, fronts_each, fronts_at}
use Rattle.seam_keep.specs.Keeping.{cost_grid, KeepAsked}
use Rattle.seam_keep.proofs.Anew.{kept_right}
use Rattle.seam_keep.proofs.Fronts.{grid_fronts}
use Rattle.seam_find_kept.specs.Finding.{costs_in, FindAsked}
use Rattle.seam_find_kept.proofs.Kept.{seam-by-planes}
use Rattle.pictures.proofs.Samples.{AreBytes}
use Rattle.seam_find.specs.ByCosts.{path_columns}
use Rattle.seam_sums.specs.Fences.{fence32}
use Rattle.seam_bounds.proofs.Moving.{each_inside}
use Rattle.map_theory.proofs.LeftColumns.{left_columns, all_left, left-inside, left-write_all}
use Rattle.map_theory.proofs.Levels.{write_all}
use Rattle.map_rules.specs.Spaces.{map_bytes}
use Rattle.map_rules.proofs.Rooms.{map-rows}
use Rattle.map_build.specs.Inner.Columns.{number_in, taken_columns, put_rows, NumberNeeded}
use Rattle.map_build.specs.Inner.Carving.{left_picture, Held, StepNeeded, CostsKept, carried_costs}
use Rattle.map_build.proofs.NumbersPut.{number_is, put-written}

module _ (z : Size) (how : Method) (w number : ℕ) (plane up left right columns : List ℕ) (sums : ℕ) (old : List ℕ)
    (n : StepNeeded z how w number plane up left right columns sums old) where
  abbrev q : Picture
  q = left_picture z w plane

  abbrev h : ℕ
  h = z.height

  abbrev m : ℕ
  m = z.width

  sides : Sides z
  sides = sides_are z n.sized.sides

  q_of : Each (Each (λ x. length x ≡ channels_of z.kind) w) h q
  q_of = fronts_each w n.within (picture-of_size z plane n.sized.picture_long)

  -- The seam of what is left.
  abbrev s : List ℕ
  s = seam_of how w h q

  s_inside : Each (λ c. c < w) h s
  s_inside = (seam_chooses how).inside w h q (omega (arith, n.more)) (grid_of q_of)

  s_joined : linked (near (wrap_of how) w) s ≡ true
  s_joined = (seam_chooses how).joined w h q (omega (arith, n.more)) (grid_of q_of)

  pub s_long : length s ≡ h
  s_long = each-length s_inside

  -- The costs that are kept are its costs, so the path that is found by them is its seam.
  pub find_asked : (space seam : ℕ) → sums ≡ space → seam ≡ h → FindAsked z w (one_cost how.energy) (length up) (length left) (length right) space seam
  find_asked space seam e l = record {
    sides = n.sized.sides;
    some = omega (arith, n.more);
    within = n.within;
    up_long = n.sized.up_long;
    left_long = λ o. n.sized.left_long;
    right_long = λ o. n.sized.right_long;
    room = omega (arith, n.room, e);
    seam_room = omega (arith, l);
  }

  path-is : AreBytes up → path_columns fence32 w h (costs_in how.energy z w up left right) ≡ s
  unfolding cost_grid
  path-is bytes = seam-by-planes how z w q up left right n.sized.sides (omega (arith, n.more)) n.within bytes n.held.up_costs n.held.left_costs n.held.right_costs

  pub seam_is : (seam space : List ℕ) → AreBytes up → length space ≡ h → seam ≡ path_columns fence32 w h (costs_in how.energy z w up left right) ++ drop h space → seam ≡ s
  seam_is seam space bytes l e = e ∙ ap₂ ◌++◌ (path-is bytes) (drop_of_length-le space (omega (arith, l))) ∙ append-nil s

  -- Where its number goes.
  abbrev M : List (List ℕ)
  M = numbers_of m h old

  old_long : length old ≡ h * (2 * m)
  old_long = n.sized.map_long ∙ sym (map-rows z)

  columns_long : length columns ≡ h * (2 * m)
  columns_long = n.sized.columns_long ∙ sym (map-rows z)

  m_grid : Grid m h M
  m_grid = grid-rows_of m h (numbers_in old) (omega (arith, length-numbers old, n.sized.map_long))

  left_long : (r : ℕ) → r < h → length (left_columns (get_or M r [])) ≡ w
  left_long r l =
      let all : Grid m h (numbers_of m h columns) = grid-rows_of m h (numbers_in columns) (omega (arith, length-numbers columns, n.sized.columns_long)) in
      let kept : Grid w h (map left_columns M) = rw n.held.first_columns at (fronts_grid w n.within all) in
      let row : get_or (map left_columns M) r [] ≡ left_columns (get_or M r []) = get_or-map left_columns M r [] [] (omega (arith, l, each-length m_grid)) in
      ap length (sym row) ∙ each_at r [] l kept

  column-left : (r : ℕ) → r < h → get_or s r 0 < length (left_columns (get_or M r []))
  column-left r l = rw (left_long r l) (each_at r 0 l s_inside)

  first-is : (r : ℕ) → r < h → number_in m columns r (get_or s r 0) ≡ get_or (left_columns (get_or M r [])) (get_or s r 0) 0
  first-is r l =
      let c : ℕ = get_or s r 0 in
      let k : c < w = each_at r 0 l s_inside in
      number_is m h columns r c columns_long l (omega (arith, k, n.within))
      ∙ sym (fronts_at w (numbers_of m h columns) r c 0 k)
      ∙ ap (λ p. get_or (get_or p r []) c 0) n.held.first_columns
      ∙ ap (λ x. get_or x c 0) (get_or-map left_columns M r [] [] (omega (arith, l, each-length m_grid)))

  pub number_needed : NumberNeeded m s columns old
  number_needed = record {
    narrow = omega (arith, sides.width_most);
    tall = omega (arith, s_long, sides.height_most);
    plane_long = rw s_long columns_long;
    map_long = rw s_long old_long;
    inside = λ r l. let k : r < h = omega (arith, l, s_long) in omega (arith, each_at r 0 k s_inside, n.within);
    first = λ r l.
        let k : r < h = omega (arith, l, s_long) in
        let row : length (get_or M r []) ≡ m = each_at r [] k m_grid in
        rw (first-is r k) (omega (arith, left-inside (get_or M r []) (get_or s r 0) (column-left r k), row));
  }

  pub numbered : numbers_of m h (put_rows number m (taken_columns m columns s) old) ≡ write_all number s M
  numbered =
      put-written number m h s (taken_columns m columns s) old old_long s_long (length-table (λ r. number_in m columns r (get_or s r 0)) (length s) ∙ s_long)
      (λ r l. (column-left r l, table_at (λ r. number_in m columns r (get_or s r 0)) (length s) r 0 (omega (arith, l, s_long)) ∙ first-is r l))

  -- How the seam is closed up in the planes, and which costs are kept.
  pub columns_seam : NumbersSeam m w s (length columns)
  columns_seam = record {
    narrow = omega (arith, sides.width_most);
    low = omega (arith, s_long, sides.height_most);
    left = n.within;
    long = number_needed.plane_long;
    inside = each_inside s_inside;
  }

  pub picture_seam : PictureSeam z w s (length plane)
  picture_seam = record { sides = n.sized.sides; left = n.within; long = n.sized.picture_long; columns = s_long; inside = each_inside s_inside }

  pub keep_asked : (bytes : ℕ) → bytes ≡ length plane → KeepAsked how z (w - 1) s bytes (map_bytes z)
  keep_asked bytes e =
      let k : w - 1 + 1 ≡ w = omega (arith, n.more) in
      record {
        sides = n.sized.sides;
        some = omega (arith, n.more);
        left = omega (arith, n.more, n.within);
        long = e ∙ n.sized.picture_long;
        room = refl;
        columns = s_long;
        inside = rw k (each_inside s_inside);
        joined = rw k s_joined;
      }

  -- What is kept after it.
  module _ (plane' up' left' right' columns' new : List ℕ)
      (closed : left_picture z (w - 1) plane' ≡ cut s q)
      (columns_closed : fronts (w - 1) (numbers_of m h columns') ≡ cut s (fronts w (numbers_of m h columns)))
      (put : new ≡ put_rows number m (taken_columns m columns s) old)
      (kept : CostsKept how z (w - 1) s plane' up left right up' left' right') where
    side-kept : (from : Step) (x x' : List ℕ) → fronts w (numbers_of m h x) ≡ cost_grid how from w h q
        → fronts (w - 1) (numbers_of m h x') ≡ carried_costs how from z (w - 1) s plane' x
        → fronts (w - 1) (numbers_of m h x') ≡ cost_grid how from (w - 1) h (left_picture z (w - 1) plane')
    side-kept from x x' was is =
        let e : w - 1 + 1 ≡ w = omega (arith, n.more) in
        let p = picture z plane in
        let long : length s ≡ length p = s_long ∙ sym (each-length (picture-of_size z plane n.sized.picture_long)) in
        is ∙ rw (e, was, grid_fronts how from w h p) (rw e at (kept_right how from (w - 1) h s p (picture z plane') long (rw e closed)))
        ∙ sym (grid_fronts how from (w - 1) h (picture z plane'))

    pub held_next : Held z how (w - 1) plane' up' left' right' columns' new
    held_next = record {
      up_costs = side-kept Up up up' n.held.up_costs kept.up_kept;
      left_costs = λ o. side-kept Left left left' (n.held.left_costs o) (kept.left_kept o);
      right_costs = λ o. side-kept Right right right' (n.held.right_costs o) (kept.right_kept o);
      first_columns =
          let e : suc (number - 1) ≡ number = omega (arith, n.some) in
          columns_closed ∙ ap (cut s) n.held.first_columns ∙ sym (rw e at (left-write_all (number - 1) s M))
          ∙ ap all_left (sym (ap (numbers_of m h) put ∙ numbered));
    }
