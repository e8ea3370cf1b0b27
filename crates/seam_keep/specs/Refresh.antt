-- Change 104: "Keep the energies (forward: the step costs) from one cut to the next and refresh only pixels whose left, right, upper or
-- lower neighbour changed."
use Rattle.std.specs.Prelude.{Bool, true, false, cond, not, ◌&&◌, List, [], ℕ, ◌+◌, ◌-◌, leb, eqb, get_or}
use Rattle.std.proofs.Math.Option.{Option, none, some, map}
use Rattle.grids.specs.Table.{table}
use Rattle.energy.specs.Around.{left_of, right_of, above_of, below_of}

-- The column in which the pixel stood that stands in row r and column c once the seam s is cut.
unfoldable pub stood : List ℕ → ℕ → ℕ → ℕ
stood s r c = cond (leb (get_or s r 0) c) (c + 1) c

-- Whether two neighbours are one, or there is none.
abbrev pub is_same : Option ℕ → Option ℕ → Bool
is_same none none = true
is_same none (some b) = false
is_same (some a) none = false
is_same (some a) (some b) = eqb a b

-- Whether a neighbour of the pixel now in row r and column c changed by the cut of s from a picture of w columns and h rows: by where they
-- stood before it, its neighbours are not the ones that it had.
unfoldable pub changed : Bool → ℕ → ℕ → List ℕ → ℕ → ℕ → Bool
changed wrap w h s r c =
    not
    (is_same (map (stood s r) (left_of wrap (w - 1) c)) (left_of wrap w (stood s r c))
    && (is_same (map (stood s r) (right_of wrap (w - 1) c)) (right_of wrap w (stood s r c))
    && (is_same (map (λ a. stood s a c) (above_of r)) (map (λ a. stood s r c) (above_of r))
    && is_same (map (λ a. stood s a c) (below_of h r)) (map (λ a. stood s r c) (below_of h r)))))

-- The number kept of the pixel in row r and column c.
abbrev pub number_at : List (List ℕ) → ℕ → ℕ → ℕ
number_at k r c = get_or (get_or k r []) c 0

-- What is kept of numbers k, one for each pixel of a picture of w columns and h rows, once the seam s is cut: where a neighbour changed a
-- fresh number, and of every other pixel its own.
unfoldable pub refreshed : Bool → ℕ → ℕ → (ℕ → ℕ → ℕ) → List ℕ → List (List ℕ) → List (List ℕ)
refreshed wrap w h fresh s k =
    table (λ r. table (λ c. cond (changed wrap w h s r c) (fresh r c) (number_at k r (stood s r c))) (w - 1)) h
