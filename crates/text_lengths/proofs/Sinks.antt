-- A text put piece by piece: what a sink is after the whole.
use mathlib.Core.Path.{◌≡◌, refl, sym, ◌∙◌}
use Rattle.std.specs.Prelude.{Option, None, Some, List, [], ◌∷◌, ◌++◌, ℕ}
use Rattle.std.specs.Option.{option_and_then}
use Rattle.text_lengths.specs.Sinks.{puts}

module _ {S : Type 0} (takes : S → ℕ → Option S) where
  rest : (o : Option S) (a b : List ℕ) → ((t : S) → puts takes t (a ++ b) ≡ option_and_then (λ u. puts takes u b) (puts takes t a))
      → option_and_then (λ t. puts takes t (a ++ b)) o ≡ option_and_then (λ u. puts takes u b) (option_and_then (λ t. puts takes t a) o)
  rest None a b h = refl
  rest (Some t) a b h = h t

  -- First a, then b.
  pub puts_append : (s : S) (a b : List ℕ) → puts takes s (a ++ b) ≡ option_and_then (λ u. puts takes u b) (puts takes s a)
  unfolding puts
  puts_append s [] b = refl
  puts_append s (x ∷ a) b = rest (takes s x) a b (λ t. puts_append t a b)

  pub puts_one : (s : S) (x : ℕ) → puts takes s (x ∷ []) ≡ takes s x
  unfolding puts
  puts_one s x = one (takes s x)
    where
      one : (o : Option S) → option_and_then (λ t. Some t) o ≡ o
      one None = refl
      one (Some t) = refl

  pub puts_none : (s : S) → puts takes s [] ≡ Some s
  unfolding puts
  puts_none s = refl

  -- Where the first piece was taken, the text goes on from there; where it wasn't, neither is the text.
  pub further : (s : S) (a b : List ℕ) {u : S} → Some u ≡ puts takes s a → puts takes s (a ++ b) ≡ puts takes u b
  further s a b {u} e = puts_append s a b ∙ rw (← e) refl

  pub no_further : (s : S) (a b : List ℕ) → None ≡ puts takes s a → None ≡ puts takes s (a ++ b)
  no_further s a b e = sym (puts_append s a b ∙ rw (← e) refl)
