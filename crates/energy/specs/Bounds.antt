-- Bounds for the arithmetic of energies, with room for samples of sixteen bits: of an energy, which is two differences of at
-- most three channels, and of the cost of a path.
use Rattle.std.specs.Prelude.{ℕ, ◌*◌}
use Rattle.pictures.specs.Limits.{most_side}

abbrev pub most_sample : ℕ
most_sample = 65535

abbrev pub most_energy : ℕ
most_energy = 2 * (3 * most_sample)

abbrev pub most_cost : ℕ
most_cost = most_side * most_energy
