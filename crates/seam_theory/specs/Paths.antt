-- Paths through a grid, and what they cost. A path is the list of its columns, from the bottom row upward.
use Rattle.std.specs.Prelude.{Bool, true, false, ◌&&◌, ◌||◌, ℕ, zero, suc, ◌+◌, leb, eqb, length}
use mathlib.Core.List.{List, [], ◌∷◌, map, flat_map}

-- The numbers lo, lo + 1, .. of which there are n.
unfoldable pub run : ℕ → ℕ → List ℕ
run lo zero = []
run lo (suc n) = lo ∷ run (suc lo) n

-- x in front of xs where the test passed.
abbrev pub cons_if : {A : Type 0} → Bool → A → List A → List A
cons_if true x xs = x ∷ xs
cons_if false x xs = xs

-- The elements that pass a test, in their order.
unfoldable pub select : {A : Type 0} → (A → Bool) → List A → List A
select t [] = []
select t (x ∷ xs) = cons_if (t x) x (select t xs)

-- The paths, where `above c` are the columns of the row above from which a path may come to column c, ascending.
module _ (above : ℕ → List ℕ) where
  -- All paths from column c of row i up to row 0, in dictionary order.
  unfoldable pub paths_up : ℕ → ℕ → List (List ℕ)
  paths_up zero c = (c ∷ []) ∷ []
  paths_up (suc i) c = map (c ∷◌) (flat_map (paths_up i) (above c))

  -- All paths of a grid of w columns and h rows, in dictionary order.
  unfoldable pub paths : ℕ → ℕ → List (List ℕ)
  paths w zero = []
  paths w (suc i) = flat_map (paths_up i) (run 0 w)

-- The cost of a path: `first c` at column c of row 0, and `step i a c` for coming to column c of row i from column a of
-- the row above. The row is the number of columns that follow.
unfoldable pub cost : (ℕ → ℕ) → (ℕ → ℕ → ℕ → ℕ) → List ℕ → ℕ
cost first step [] = 0
cost first step (c ∷ []) = first c
cost first step (c ∷ a ∷ p) = cost first step (a ∷ p) + step (suc (length p)) a c

-- The sum of v over the pixels of a path, where v r c is the value in row r and column c.
abbrev pub along : (ℕ → ℕ → ℕ) → List ℕ → ℕ
along v = cost (v 0) (λ i a c. v i c)

-- Two columns that differ by at most 1.
unfoldable pub beside : ℕ → ℕ → Bool
beside c a = leb a (c + 1) && leb c (a + 1)

-- The first and the last of w columns, in either order.
unfoldable pub joins : ℕ → ℕ → ℕ → Bool
joins w c a = (eqb c 0 && eqb (a + 1) w) || (eqb a 0 && eqb (c + 1) w)

-- Whether a path may step between columns c and a of w: where the last column is joined to the first, also between these two.
abbrev pub near : Bool → ℕ → ℕ → ℕ → Bool
near wrap w c a = (wrap && joins w c a) || beside c a

-- The columns of a grid of w columns that are near c, ascending.
unfoldable pub nearby : Bool → ℕ → ℕ → List ℕ
nearby wrap w c = select (near wrap w c) (run 0 w)
