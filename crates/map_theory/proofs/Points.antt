-- Points besides those of crate `points`, of the specification's 3 by 2 picture with its seams given: what the definitions
-- give, beside what is expected. One proof serves the table.
use mathlib.Core.Path.{◌≡◌, refl}
use mathlib.Core.Bool.{Bool, false, true, cond}
use mathlib.Core.List.{List, [], ◌∷◌, map, zip_with}
use Prim.Native.Nat.{ℕ}
use lib.Dec.{eqb}
use Rattle.grids.specs.Cut.{remove_at, cut}
use Rattle.seam_theory.specs.Paths.{run, beside, near}
use Rattle.pictures.specs.Refusals.{refusal}
use Rattle.seam_theory.specs.Choices.{Choice}
use Rattle.map_theory.specs.Maps.{number_row, number, map_of}
use Rattle.map_theory.specs.Widths.{offered, stays, doubled, middle, row_at_width, shown}
use Rattle.map_theory.specs.Judged.{tick, numbers, remains, before, recorded, connected, found, map_rules}

-- A row of the table: what a definition gives, and what it should.
pub record Point : Type 0 where
  pub got : List (List ℕ)
  pub expected : List (List ℕ)

-- Grey rows 10 10 40 and 10 50 40, and its seams by `edge`: columns 0, 0 at width 3, then columns 1, 1.
abbrev example : List (List ℕ)
example = (10 ∷ 10 ∷ 40 ∷ []) ∷ (10 ∷ 50 ∷ 40 ∷ []) ∷ []

abbrev seams : Choice ℕ
seams w h p = cond (eqb w 3) (0 ∷ 0 ∷ []) (1 ∷ 1 ∷ [])

-- A test as a number, and the number that refuses a recorded map of the example.
abbrev bit : Bool → List (List ℕ)
bit t = (tick t 0 ∷ []) ∷ []

abbrev judged : List ℕ → List ℕ → List (List ℕ)
judged x y = (refusal (map_rules (near false) seams 3 2 2 example (x ∷ y ∷ [])) ∷ []) ∷ []

abbrev table : List Point
table =
    -- at its own width the picture itself
    record { got = shown middle false 3 3 example (map_of seams 2 3 2 example); expected = example }
    -- widths 1 and 4 are offered
    ∷ record { got = bit (offered 3 2 1 1); expected = (1 ∷ []) ∷ [] }
    ∷ record { got = bit (offered 3 2 1 4); expected = (1 ∷ []) ∷ [] }
    -- a map with a number above the depth
    ∷ record { got = judged (1 ∷ 3 ∷ 2 ∷ []) (1 ∷ 0 ∷ 2 ∷ []); expected = (9 ∷ []) ∷ [] }
    -- the recorded seam 2 stands at the columns of the picture then left
    ∷ record { got = recorded 2 ((2 ∷ 0 ∷ 1 ∷ []) ∷ (1 ∷ 0 ∷ 2 ∷ []) ∷ []) ∷ []; expected = (0 ∷ 1 ∷ []) ∷ [] }
    -- neighbours of new pixels are those of the original, also where these are doubled: 10 50 40 grown by 1, 2 and 3
    ∷ record { got = shown middle false 3 6 ((10 ∷ 50 ∷ 40 ∷ []) ∷ []) ((1 ∷ 2 ∷ 3 ∷ []) ∷ []); expected = (10 ∷ 30 ∷ 50 ∷ 45 ∷ 45 ∷ 40 ∷ []) ∷ [] }
    -- a mean is rounded down
    ∷ record { got = shown middle false 2 3 ((10 ∷ 11 ∷ []) ∷ []) ((1 ∷ 2 ∷ []) ∷ []); expected = (10 ∷ 10 ∷ 11 ∷ []) ∷ [] }
    -- and with the last column joined to the first
    ∷ record { got = shown middle true 3 6 ((10 ∷ 50 ∷ 40 ∷ []) ∷ []) ((1 ∷ 2 ∷ 3 ∷ []) ∷ []); expected = (10 ∷ 30 ∷ 50 ∷ 45 ∷ 40 ∷ 25 ∷ []) ∷ [] }
    ∷ []

pub points : map (λ p. p.got) table ≡ map (λ p. p.expected) table
unfolding remove_at cut zip_with run beside number_row number offered stays doubled middle row_at_width shown numbers remains before connected found
points = refl
