-- Lines counted one by one, as long as their word stands next.
use mathlib.Core.Path.{◌≡◌, refl, ap, ◌∙◌}
use mathlib.Core.Bool.{Bool, true, ◌&&◌, and-true, and_assoc}
use mathlib.Core.Option.{Option, none, some}
use mathlib.Core.List.{List, ◌∷◌}
use Prim.Native.Nat.{ℕ, suc, ◌+◌, ◌≤◌, ◌<◌}
use native.Mathlib.Nat.{add-zero}
use native.Mathlib.Omega.{arith}
use lib.Dec.{eqb}
use lib.ListN.{length, drop}
use Rattle.text_rules.specs.declared.Items.{Items}
use Rattle.text_rules.specs.declared.Items.TheVariants.{Samples, Pixels, Numbers}
use Rattle.text_theory.specs.Readers.{Get, give, on, strip, after, next, many}
use Rattle.pictures.specs.declared.sizes.Kind.TheVariants.{Rgb}
use Rattle.pictures.specs.Numbers.{largest_number}
use Rattle.text_theory.specs.Files.{line_end}
use Rattle.text_read.specs.Answers.{Told, counted, form_of, line_rest}
use Rattle.text_scan.specs.Facts.{evenly}
use Rattle.text_read.specs.Inner.{passing}
use Rattle.text_scan.specs.Inner.{Reached, lines_of}
use Rattle.text_theory.proofs.Pairs.{short, on_inv, after_inv}
use Rattle.text_theory.proofs.Many.{many-next}
use Rattle.text_theory.proofs.Decimals.{number_reads}
use Rattle.text_theory.proofs.Files.{items_reads, pixel_reads, clear-blank, clear-closing}
use Rattle.text_read.proofs.Onward.{passing-some, passing-none}

-- The rest of a line leaves no more than it was given.
count-short : {A : Type 0} (g : Get (List A)) → ((s : List ℕ) (r : List A × List ℕ) → g s ≡ some r → length r.1 ≤ length s) → (s : List ℕ) (r : ℕ × List ℕ) → counted g s ≡ some r → length r.1 ≤ length s
unfolding counted
count-short g k s r h =
    let p = on_inv (g s) (λ xs. give (length xs)) r h in
    let z : r ≡ (length p.0.0, p.0.1) = cc p.2 in
    rw z (k s p.0 p.1)

form_short : (w : Items) (s : List ℕ) (r : ℕ × List ℕ) → form_of w s ≡ some r → length r.1 ≤ length s
unfolding form_of
form_short Samples = count-short _ (short (items_reads (number_reads 255) clear-blank clear-closing))
form_short Pixels = count-short _ (short (items_reads (pixel_reads Rgb) clear-blank clear-closing))
form_short Numbers = count-short _ (short (items_reads (number_reads largest_number) clear-blank clear-closing))

rest-short : (w : Items) (s : List ℕ) (r : ℕ × List ℕ) → line_rest w s ≡ some r → length r.1 ≤ length s
unfolding line_rest line_end
rest-short w s r h =
    let p = on_inv (form_of w s) (λ n. after line_end (give n)) r h in
    let q = after_inv line_end (give p.0.0) p.0.1 r p.2 in
    let z : r ≡ (p.0.0, q.0) = cc q.2 in
    rw z (omega (arith, form_short w s p.0 p.1, ap length q.1))

abbrev pub tally : ℕ → List ℕ → Get (ℕ × Bool)
tally width ns = give (length ns, evenly width ns)

abbrev pub grown : ℕ → Bool → ℕ × Bool → Get (ℕ × Bool)
grown n even p = give (n + p.0, even && p.1)

abbrev pub one : Bool → ℕ × Bool → Get (ℕ × Bool)
one even p = give (suc p.0, even && p.1)

module _ (word : List ℕ) (pos : 0 < length word) (w : Items) (width : ℕ) where
  lines_stop : (s : List ℕ) → strip word s ≡ none → lines_of word w width s ≡ some ((0, true), s)
  unfolding lines_of next evenly
  lines_stop s h = rw (many-next word pos (line_rest w) (rest-short w) s, h)

  lines_more : (s t : List ℕ) (m : ℕ) (u : List ℕ) → strip word s ≡ some t → line_rest w t ≡ some (m, u) → lines_of word w width s ≡ on (lines_of word w width u) (one (eqb m width))
  unfolding lines_of next evenly
  lines_more s t m u h k = rw (many-next word pos (line_rest w) (rest-short w) s, h, k) (go (many word (line_rest w) u))
    where
      go : (o : Option (List ℕ × List ℕ)) → on (on o (λ ns. give (m ∷ ns))) (tally width) ≡ on (on o (tally width)) (one (eqb m width))
      go none = refl
      go (some r) = refl

  lines_torn : (s t : List ℕ) → strip word s ≡ some t → line_rest w t ≡ none → lines_of word w width s ≡ none
  unfolding lines_of next
  lines_torn s t h k = rw (many-next word pos (line_rest w) (rest-short w) s, h, k)

-- The state of the loop over lines.
pub record Lining (word : List ℕ) (w : Items) (width : ℕ) (text : List ℕ) (from n : ℕ) (even : Bool) (at : ℕ) : Type 0 where
  pub same : lines_of word w width (drop from text) ≡ on (lines_of word w width (drop at text)) (grown n even)
  pub there : from ≤ at
  pub inside : at ≤ length text
  pub few : n ≤ at

module _ {word : List ℕ} {w : Items} {width : ℕ} {text : List ℕ} {from : ℕ} where
  module _ (pos : 0 < length word) {n : ℕ} {even : Bool} {at : ℕ} (L : Lining word w width text from n even at) where
    pub lining-stop : Told (passing word) text at none → Reached (lines_of word w width) text from (some ((n, even), at))
    lining-stop t = record { same = L.same ∙ rw (lines_stop word pos w width (drop at text) (passing-none word (drop at text) t.same), add-zero, and-true); moved = (L.there, L.inside) }

    module _ {v c : ℕ} (t : Told (passing word) text at (some (v, c))) where
      pub lining-torn : Told (line_rest w) text c none → Reached (lines_of word w width) text from none
      lining-torn r = record { same = L.same ∙ rw (lines_torn word pos w width (drop at text) (drop c text) (passing-some word (drop at text) v (drop c text) t.same) r.same); moved = tt }

      pub lining-next : {m d : ℕ} {more : Bool} → Told (line_rest w) text c (some (m, d)) → more ≡ (even && eqb m width) → Lining word w width text from (n + 1) more d
      lining-next {m} {d} {more} r e = record {
        same = L.same ∙ rw (lines_more word pos w width (drop at text) (drop c text) m (drop d text) (passing-some word (drop at text) v (drop c text) t.same) r.same, e) (go (lines_of word w width (drop d text)));
        there = omega (arith, L.there, t.moved.0, r.moved.0);
        inside = r.moved.1;
        few = omega (arith, L.few, t.moved.0, r.moved.0);
      }
        where
          go : (o : Option ((ℕ × Bool) × List ℕ)) → on (on o (one (eqb m width))) (grown n even) ≡ on o (grown (n + 1) (even && eqb m width))
          go none = refl
          go (some q) = let z : n + suc q.0.0 ≡ n + 1 + q.0.0 = omega arith in rw (z, and_assoc)
