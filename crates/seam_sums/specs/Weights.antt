-- What coming to a pixel costs and its mark in one number, so that the path of least weight is the seam found with marks.
use Rattle.pictures.specs.declared.refusals.Refusal.{Refusal}
use Rattle.std.specs.Prelude.{◌≡◌, cond, ℕ, ◌+◌, ◌*◌, ◌%◌, leb, eqb, Result}
use Rattle.seam_rules.specs.Answers.{found_number, found_cost}

-- What a pixel adds that is kept, that is not marked 2: more than any path costs. 2 ^ 20.
abbrev pub kept : ℕ
kept = 1048576

-- What a protected pixel adds: more than any path weighs that has none. 2 ^ 30.
abbrev pub protected : ℕ
protected = 1073741824

-- The weight of a pixel: what coming to it costs, kept if it is not marked 2, and protected if it is marked 1. The least sum of weights is
-- then that of an allowed path, if there is one, with the most pixels marked 2, and of those the cheapest.
abbrev pub weight_of : ℕ → ℕ → ℕ
weight_of cost mark = cost + (cond (eqb mark 2) 0 1 * kept + cond (eqb mark 1) 1 0 * protected)

-- What the least weight of a path means: 12 where the path has a protected pixel, and else what it costs.
pub record FoundByGiven (weight : ℕ) (answer : Result ℕ Refusal) : Type 0 where
  pub number : found_number answer ≡ cond (leb protected weight) 12 0
  pub cost : found_cost answer ≡ cond (leb protected weight) 0 (weight % kept)
