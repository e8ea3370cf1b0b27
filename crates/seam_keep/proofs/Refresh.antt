-- Numbers kept from one cut to the next. Proved of the refresh, whatever numbers were kept: "every other pixel carries its own along
-- unchanged" (`refresh_carried`); "if all were right before the cut, all are as worked out anew after it" (`refresh_right`).
use mathlib.Core.Path.{◌≡◌, refl, sym, ap, ◌∙◌}
use mathlib.Core.Logic.{⊎_elim}
use mathlib.Core.Bool.{Bool, true, false, cond, not, ◌&&◌, true≢false}
use mathlib.Core.Option.{Option, none, some, map}
use mathlib.Core.List.{List, []}
use Prim.Native.Nat.{ℕ, ◌+◌, ◌-◌, ◌≤◌, ◌<◌}
use native.Mathlib.Numerals.{add-one}
use native.Mathlib.Omega.{arith}
use lib.Dec.{leb}
use lib.ListN.{length, get_or}
use borrow.Author.Tests.{le-leb, lt-leb, eqb-true, eq-eqb}
use Rattle.grids.specs.Cut.{remove_at, cut}
use Rattle.grids.specs.Table.{table}
use Rattle.grids.proofs.Bools.{both, and_both}
use Rattle.grids.proofs.Orders.{le-or-lt}
use Rattle.grids.proofs.Cut.{remove_at-below, remove_at-from, cut_at}
use Rattle.grids.proofs.Tables.{table_at, table_same}
use Rattle.pictures.specs.Pictures.{Picture, pixel}
use Rattle.energy.specs.Around.{Around, left_of, right_of, above_of, below_of, around}
use Rattle.energy.specs.declared.methods.Method.{Method}
use Rattle.energy.specs.declared.pixels.Step.{Step}
use Rattle.energy.specs.Methods.{wrap_of}
use Rattle.energy.specs.Energy.{costs_from, costs_at}
use Rattle.energy.specs.Pixels.{cost_to}
use Rattle.seam_keep.specs.Refresh.{stood, is_same, changed, number_at, refreshed}
use Rattle.seam_keep.specs.Keeping.{cost_grid}

-- Neighbours that pass the test are one, or there is none.
same_is : (a b : Option ℕ) → is_same a b ≡ true → a ≡ b
same_is none none e = refl
same_is none (some b) e = absurd (true≢false (sym e))
same_is (some a) none e = absurd (true≢false (sym e))
same_is (some a) (some b) e = ap some (eqb-true a b e)

same_own : (a b : Option ℕ) → a ≡ b → is_same a b ≡ true
same_own none b e = rw (← e)
same_own (some a) b e = rw (← e) (eq-eqb a a refl)

-- By where a pixel's neighbours stood before the cut, they are the ones that it had.
pub record Unchanged (wrap : Bool) (w h : ℕ) (s : List ℕ) (r c : ℕ) : Type 0 where
  pub left : map (stood s r) (left_of wrap (w - 1) c) ≡ left_of wrap w (stood s r c)
  pub right : map (stood s r) (right_of wrap (w - 1) c) ≡ right_of wrap w (stood s r c)
  pub up : map (λ a. stood s a c) (above_of r) ≡ map (λ a. stood s r c) (above_of r)
  pub down : map (λ a. stood s a c) (below_of h r) ≡ map (λ a. stood s r c) (below_of h r)

not_false : (t : Bool) → not t ≡ false → t ≡ true
not_false true e = refl
not_false false e = absurd (true≢false e)

module _ (wrap : Bool) (w h : ℕ) (s : List ℕ) (r c : ℕ) where
  abbrev lefts : Bool
  lefts = is_same (map (stood s r) (left_of wrap (w - 1) c)) (left_of wrap w (stood s r c))

  abbrev rights : Bool
  rights = is_same (map (stood s r) (right_of wrap (w - 1) c)) (right_of wrap w (stood s r c))

  abbrev ups : Bool
  ups = is_same (map (λ a. stood s a c) (above_of r)) (map (λ a. stood s r c) (above_of r))

  abbrev downs : Bool
  downs = is_same (map (λ a. stood s a c) (below_of h r)) (map (λ a. stood s r c) (below_of h r))

  -- That is what it means that none has changed.
  pub unchanged_of : changed wrap w h s r c ≡ false → Unchanged wrap w h s r c
  unfolding changed
  unchanged_of e =
      let a = both lefts (rights && (ups && downs)) (not_false _ e) in
      let b = both rights (ups && downs) a.1 in
      let d = both ups downs b.1 in
      record { left = same_is _ _ a.0; right = same_is _ _ b.0; up = same_is _ _ d.0; down = same_is _ _ d.1 }

  pub unchanged_is : Unchanged wrap w h s r c → changed wrap w h s r c ≡ false
  unfolding changed
  unchanged_is u =
      ap not
      (and_both lefts (rights && (ups && downs)) (same_own _ _ u.left)
      (and_both rights (ups && downs) (same_own _ _ u.right) (and_both ups downs (same_own _ _ u.up) (same_own _ _ u.down))))

map_map : {A B C : Type 0} (g : B → C) (f : A → B) (o : Option A) → map g (map f o) ≡ map (λ a. g (f a)) o
map_map g f none = refl
map_map g f (some a) = refl

map_same : {A B : Type 0} (f g : A → B) (o : Option A) → ((a : A) → f a ≡ g a) → map f o ≡ map g o
map_same f g none e = refl
map_same f g (some a) e = ap some (e a)

-- Rows apart, where the columns are the same.
map_row : {B : Type 0} (q : ℕ → ℕ → B) (f g : ℕ → ℕ) (o : Option ℕ) → map f o ≡ map g o → map (λ a. q a (f a)) o ≡ map (λ a. q a (g a)) o
map_row q f g none e = refl
map_row q f g (some a) e = ap (map (q a)) e

-- An element of a row without its i-th.
pub removed_at : {A : Type 0} (d : A) (i : ℕ) (xs : List A) (c : ℕ) → get_or (remove_at i xs) c d ≡ get_or xs (cond (leb i c) (c + 1) c) d
removed_at d i xs c =
    ⊎_elim
    (λ (l : i ≤ c). rw (le-leb i c l) (remove_at-from i xs c d l ∙ ap (λ n. get_or xs n d) (sym (add-one c))))
    (λ (l : c < i). rw (lt-leb i c l) (remove_at-below i xs c d l))
    (le-or-lt i c)

-- An element of a grid that is left is the one that stood there.
pub cut_stood : {A : Type 0} (d : A) (s : List ℕ) (p : List (List A)) (r c : ℕ) → length s ≡ length p → get_or (get_or (cut s p) r []) c d ≡ get_or (get_or p r []) (stood s r c) d
unfolding stood
cut_stood d s p r c e = ap (λ x. get_or x c d) (cut_at s p r e) ∙ removed_at d (get_or s r 0) (get_or p r []) c

-- So a pixel with no changed neighbour has the neighbours that it had.
pub around_kept : (wrap : Bool) (w h : ℕ) (s : List ℕ) (p : Picture) (r c : ℕ) → length s ≡ length p
    → changed wrap w h s r c ≡ false → around wrap (w - 1) h (cut s p) r c ≡ around wrap w h p r (stood s r c)
around_kept wrap w h s p r c e same =
    λ i. record {
      it = here r c i;
      left = (map_same (pixel (cut s p) r) (λ a. pixel p r (stood s r a)) (left_of wrap (w - 1) c) (λ a. here r a)
          ∙ sym (map_map (pixel p r) (stood s r) (left_of wrap (w - 1) c)) ∙ ap (map (pixel p r)) u.left) i;
      right = (map_same (pixel (cut s p) r) (λ a. pixel p r (stood s r a)) (right_of wrap (w - 1) c) (λ a. here r a)
          ∙ sym (map_map (pixel p r) (stood s r) (right_of wrap (w - 1) c)) ∙ ap (map (pixel p r)) u.right) i;
      up = (map_same (λ a. pixel (cut s p) a c) (λ a. pixel p a (stood s a c)) (above_of r) (λ a. here a c)
          ∙ map_row (pixel p) (λ a. stood s a c) (λ a. stood s r c) (above_of r) u.up) i;
      down = (map_same (λ a. pixel (cut s p) a c) (λ a. pixel p a (stood s a c)) (below_of h r) (λ a. here a c)
          ∙ map_row (pixel p) (λ a. stood s a c) (λ a. stood s r c) (below_of h r) u.down) i;
    }
  where
    u : Unchanged wrap w h s r c
    u = unchanged_of wrap w h s r c same

    here : (r c : ℕ) → pixel (cut s p) r c ≡ pixel p r (stood s r c)
    here r c = cut_stood [] s p r c e

-- Where a pixel stood is inside the picture before the cut.
stood_inside : (w : ℕ) (s : List ℕ) (r c : ℕ) → c < w - 1 → stood s r c < w
unfolding stood
stood_inside w s r c l = go (leb (get_or s r 0) c)
  where
    go : (t : Bool) → cond t (c + 1) c < w
    go true = omega arith
    go false = omega arith

-- The number of one pixel after the refresh.
pub number_refreshed : (wrap : Bool) (w h : ℕ) (fresh : ℕ → ℕ → ℕ) (s : List ℕ) (k : List (List ℕ)) (r c : ℕ) → r < h → c < w - 1
    → number_at (refreshed wrap w h fresh s k) r c ≡ cond (changed wrap w h s r c) (fresh r c) (number_at k r (stood s r c))
unfolding refreshed
number_refreshed wrap w h fresh s k r c row column =
    let one : ℕ → ℕ → ℕ = λ r c. cond (changed wrap w h s r c) (fresh r c) (number_at k r (stood s r c)) in
    ap (λ x. get_or x c 0) (table_at (λ r. table (one r) (w - 1)) h r [] row) ∙ table_at (one r) (w - 1) c 0 column

-- "Proved of the refresh, whatever numbers were kept: every other pixel carries its own along unchanged", every other than the "pixels whose
-- left, right, upper or lower neighbour changed".
pub refresh_carried : (wrap : Bool) (w h : ℕ) (fresh : ℕ → ℕ → ℕ) (s : List ℕ) (k : List (List ℕ)) (r c : ℕ) → r < h → c < w - 1
    → changed wrap w h s r c ≡ false → number_at (refreshed wrap w h fresh s k) r c ≡ number_at k r (stood s r c)
refresh_carried wrap w h fresh s k r c row column same =
    number_refreshed wrap w h fresh s k r c row column ∙ ap (λ t. cond t (fresh r c) (number_at k r (stood s r c))) same

-- The numbers of all pixels of a picture, by what a pixel costs with its neighbours.
abbrev pub numbers_by : (Around → ℕ) → Bool → ℕ → ℕ → Picture → List (List ℕ)
numbers_by f wrap w h p = table (λ r. table (λ c. f (around wrap w h p r c)) w) h

-- "if all were right before the cut, all are as worked out anew after it": whatever a pixel costs by its neighbours, with and without
-- the join.
pub refresh_right : (f : Around → ℕ) (wrap : Bool) (w h : ℕ) (s : List ℕ) (p : Picture) → length s ≡ length p
    → refreshed wrap w h (λ r c. f (around wrap (w - 1) h (cut s p) r c)) s (numbers_by f wrap w h p) ≡ numbers_by f wrap (w - 1) h (cut s p)
unfolding refreshed
refresh_right f wrap w h s p e =
    table_same (λ r. table (λ c. cond (changed wrap w h s r c) (anew r c) (number_at before r (stood s r c))) (w - 1)) (λ r. table (anew r) (w - 1)) h
    (λ r row. table_same (λ c. cond (changed wrap w h s r c) (anew r c) (number_at before r (stood s r c))) (anew r) (w - 1) (λ c column. one r c row column (changed wrap w h s r c) refl))
  where
    before : List (List ℕ)
    before = numbers_by f wrap w h p

    anew : ℕ → ℕ → ℕ
    anew r c = f (around wrap (w - 1) h (cut s p) r c)

    was : (r c : ℕ) → r < h → c < w → number_at before r c ≡ f (around wrap w h p r c)
    was r c row column =
        ap (λ x. get_or x c 0) (table_at (λ r. table (λ c. f (around wrap w h p r c)) w) h r [] row)
        ∙ table_at (λ c. f (around wrap w h p r c)) w c 0 column

    one : (r c : ℕ) → r < h → c < w - 1 → (t : Bool) → changed wrap w h s r c ≡ t → cond t (anew r c) (number_at before r (stood s r c)) ≡ anew r c
    one r c row column true same = refl
    one r c row column false same = was r (stood s r c) row (stood_inside w s r c column) ∙ ap f (sym (around_kept wrap w h s p r c e same))

-- So of the costs of coming from one side, by each method.
pub refresh_costs : (how : Method) (from : Step) (w h : ℕ) (s : List ℕ) (p : Picture) → length s ≡ length p
    → refreshed (wrap_of how) w h (λ r c. cost_to from (costs_at how (w - 1) h (cut s p) r c)) s (cost_grid how from w h p) ≡ cost_grid how from (w - 1) h (cut s p)
unfolding cost_grid costs_at
refresh_costs how from w h s p e = refresh_right (λ a. cost_to from (costs_from how.energy a)) (wrap_of how) w h s p e
