-- The items of a line from an index on, each after a blank, put into a sink.
use mathlib.Core.Path.{◌≡◌, refl, sym, ap, ◌∙◌}
use Rattle.std.specs.Prelude.{Option, None, Some}
use Rattle.std.proofs.Common.{List, [], ◌∷◌, ◌++◌, ℕ, zero, suc, arith, ◌+◌, ◌≤◌, ◌<◌, length, get_or, drop, add-one, drop-cons, drop_of_length-le}
use Rattle.text_theory.specs.Files.{blank, each}
use Rattle.text_lengths.specs.Sinks.{puts}
use Rattle.text_lengths.proofs.Sinks.{further, no_further, puts_none, puts_one}

-- What the whole text makes of the sink is what the items from i on make of s.
module _ {A S : Type 0} (takes : S → ℕ → Option S) (put : A → List ℕ) (xs : List A) (s : S) {i : ℕ} {whole : Option S} (I : whole ≡ puts takes s (each blank put (drop i xs))) where
  module _ {x : A} (h : i < length xs) (e : x ≡ get_or xs i x) where
    each_front : whole ≡ puts takes s (blank ++ (put x ++ each blank put (drop (i + 1) xs)))
    unfolding each
    each_front = I ∙ ap (puts takes s) (rw (add-one, drop-cons xs i x h) (ap (λ (y : A). blank ++ (put y ++ each blank put (drop (suc i) xs))) (sym e)))

    pub no_blank : None ≡ puts takes s blank → None ≡ whole
    no_blank n = no_further takes s blank _ n ∙ sym each_front

    module _ {t : S} (b : Some t ≡ puts takes s blank) where
      pub no_item : None ≡ puts takes t (put x) → None ≡ whole
      no_item n = no_further takes t (put x) _ n ∙ sym (each_front ∙ further takes s blank _ b)

      pub next_item : {u : S} → Some u ≡ puts takes t (put x) → whole ≡ puts takes u (each blank put (drop (i + 1) xs))
      next_item p = each_front ∙ further takes s blank _ b ∙ further takes t (put x) _ p

  pub each_done : length xs ≤ i → Some s ≡ whole
  unfolding each
  each_done h = sym (I ∙ rw (drop_of_length-le xs h) (puts_none takes s))

-- An element, whatever stands for one that there isn't.
pub same_at : {A : Type 0} (xs : List A) (i : ℕ) (d e : A) → i < length xs → get_or xs i d ≡ get_or xs i e
same_at [] i d e h = absurd (omega arith)
same_at (x ∷ xs) zero d e h = refl
same_at (x ∷ xs) (suc i) d e h = same_at xs i d e (omega arith)

-- A blank is one byte.
pub blank_taken : {S : Type 0} (takes : S → ℕ → Option S) (s : S) → takes s 32 ≡ puts takes s blank
unfolding blank
blank_taken takes s = sym (puts_one takes s 32)
