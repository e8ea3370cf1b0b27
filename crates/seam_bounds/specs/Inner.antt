-- What private functions of the crates above ask of places in a space. No public promise cites it.
use Rattle.std.specs.Prelude.{◌⊎◌, ℕ, ◌+◌, ◌≤◌}

-- What `apart_in` tests, said of the numbers.
pub record PlacesApart (space from to n : ℕ) : Type 0 where
  pub from_inside : from + n ≤ space
  pub to_inside : to + n ≤ space
  pub apart : (from + n ≤ to) ⊎ (to + n ≤ from)
