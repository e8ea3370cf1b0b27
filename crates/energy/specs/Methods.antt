-- A method: how a seam is found.
use Rattle.std.specs.Prelude.{Bool, false}
use Rattle.energy.specs.declared.methods.EnergyRule.TheVariants.{Edge}
use Rattle.energy.specs.declared.methods.Method.{Method}

-- The method that is meant where none is said: "`seams` writes `edge`".
abbrev pub usual_method : Method
usual_method = record { energy = Edge }

-- Whether the last column is joined to the first: by no method yet.
unfoldable pub wrap_of : Method → Bool
wrap_of how = false
