-- What a sink does with a text.
use Rattle.std.specs.Prelude.{Option, Some, List, [], ◌∷◌, ℕ}
use Rattle.std.specs.Option.{option_and_then}

-- A sink after these bytes, taken one after the other; none where it has no room for one of them.
unfoldable pub puts : {S : Type 0} → (S → ℕ → Option S) → S → List ℕ → Option S
puts takes s [] = Some s
puts takes s (b ∷ w) = option_and_then (λ t. puts takes t w) (takes s b)
