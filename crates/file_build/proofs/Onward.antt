-- Lines put one after the other: those from an index on, and the first of them.
use mathlib.Core.Path.{◌≡◌, sym, ap, ◌∙◌}
use Rattle.std.specs.Prelude.{Option, None, Some, List, ◌++◌, ℕ, ◌+◌, ◌≤◌, ◌<◌, length, drop}
use Rattle.std.proofs.Common.{get_or, add-one, drop-cons, drop_of_length-le, append_assoc}
use native.Mathlib.Omega.{arith}
use Rattle.text_theory.specs.Files.{each}
use Rattle.text_lengths.specs.Sinks.{puts}
use Rattle.text_lengths.proofs.Sinks.{further, no_further, puts_none}

-- What the whole text makes of the sink is what the lines of the n items from i on make of s.
module _ {S A : Type 0} (takes : S → ℕ → Option S) (w : List ℕ) (put : A → List ℕ) (d : A) (xs : List A) (s : S) {i n : ℕ} {whole : Option S} (many : length xs ≡ n)
    (I : whole ≡ puts takes s (each w put (drop i xs))) where
  module _ (h : i < n) {line : List ℕ} (e : line ≡ w ++ put (get_or xs i d)) where
    split : whole ≡ puts takes s (line ++ each w put (drop (i + 1) xs))
    unfolding each
    split = let l : i < length xs = omega arith in I ∙ ap (puts takes s) (rw (add-one, drop-cons xs i d l, e, append_assoc))

    pub line_taken : {t : S} → Some t ≡ puts takes s line → whole ≡ puts takes t (each w put (drop (i + 1) xs))
    line_taken t = split ∙ further takes s line _ t

    pub line_refused : None ≡ puts takes s line → None ≡ whole
    line_refused n = no_further takes s line _ n ∙ sym split

  pub lines_done : n ≤ i → Some s ≡ whole
  unfolding each
  lines_done h = let l : length xs ≤ i = omega arith in sym (I ∙ rw (drop_of_length-le xs l) (puts_none takes s))
