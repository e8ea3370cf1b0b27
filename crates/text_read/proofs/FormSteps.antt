-- Forms and items at a place of a text, one step at a time, in the code's terms.
use mathlib.Core.Path.{◌≡◌, refl, sym, ◌∙◌}
use mathlib.Core.Bool.{Bool, true, false, cond}
use mathlib.Core.Option.{Option, none, some}
use mathlib.Core.List.{List, [], ◌∷◌}
use Prim.Native.Nat.{ℕ, suc, ◌+◌, ◌≤◌, ◌<◌}
use native.Mathlib.Nat.{add-zero}
use native.Mathlib.Omega.{arith}
use lib.Dec.{eqb}
use lib.ListN.{length, get_or, drop, drop_of_length-le}
use borrow.Author.Tests.{eqb-true, ne_eqb}
use Rattle.std.proofs.lemmas.List.{drop_more}
use Rattle.text_theory.specs.Readers.{Get, give, on, ◌▷◌, strip, onward, after, next, many}
use Rattle.text_theory.specs.Decimal.{number_get}
use Rattle.pictures.specs.declared.sizes.Kind.TheVariants.{Rgb}
use Rattle.pictures.specs.Numbers.{largest_number}
use Rattle.text_theory.specs.Files.{blank, opening, closing, items, three, pixel_get}
use Rattle.text_rules.specs.declared.Items.{Items}
use Rattle.text_rules.specs.declared.Items.TheVariants.{Samples, Pixels, Numbers}
use Rattle.text_read.specs.Answers.{Told, counted, item_of, form_of}
use Rattle.text_read.specs.Inner.{passing}
use Rattle.text_read.proofs.Onward.{passing-some, passing-none}
use Rattle.text_theory.proofs.Pairs.{Reads, short}
use Rattle.text_theory.proofs.Many.{many-next}
use Rattle.text_theory.proofs.Decimals.{number_reads}
use Rattle.text_theory.proofs.Files.{pixel_reads}

module _ {A : Type 0} {ok : A → Type 0} {put : A → List ℕ} {stop : List ℕ → Type 0} {g : Get A} (R : Reads ok put stop g) where
  step : (s : List ℕ) → many blank g s ≡ next (strip blank s) s g (many blank g)
  unfolding blank
  step s = many-next blank (omega arith) g (short R) s

  count-nil : counted (items g) [] ≡ none
  unfolding counted items strip blank next closing
  count-nil = rw step

  count_close : (t : List ℕ) → counted (items g) (41 ∷ t) ≡ some (0, t)
  unfolding counted items strip blank next closing
  count_close t = rw step

  count-other : (b : ℕ) (t : List ℕ) → (b ≡ 41 → ⊥) → (b ≡ 32 → ⊥) → counted (items g) (b ∷ t) ≡ none
  unfolding counted items strip blank next closing
  count-other b t p q = rw (step, ne_eqb 32 b (λ e. q (sym e)), ne_eqb 41 b (λ e. p (sym e)))

  count-blank : (t : List ℕ) → counted (items g) (32 ∷ t) ≡ on (g t) (λ x. counted (items g) ▷ λ n. give (suc n))
  unfolding counted items strip blank next
  count-blank t = rw (step (32 ∷ t)) (go (g t))
    where
      last : (x : A) (xs : List A) (o : Option (List ℕ)) → on (onward o (give (x ∷ xs))) (λ xs. give (length xs)) ≡ on (on (onward o (give xs)) (λ xs. give (length xs))) (λ n. give (suc n))
      last x xs none = refl
      last x xs (some u) = refl

      more : (x : A) (o : Option (List A × List ℕ)) → on (on (on o (λ xs. give (x ∷ xs))) (λ xs. after closing (give xs))) (λ xs. give (length xs)) ≡ on (on (on o (λ xs. after closing (give xs))) (λ xs. give (length xs))) (λ n. give (suc n))
      more x none = refl
      more x (some r) = last x r.0 (strip closing r.1)

      go : (o : Option (A × List ℕ)) → on (on (on o (λ x. many blank g ▷ λ xs. give (x ∷ xs))) (λ xs. after closing (give xs))) (λ xs. give (length xs)) ≡ on o (λ x. counted (items g) ▷ λ n. give (suc n))
      go none = refl
      go (some r) = more r.0 (many blank g r.1)

form_nil : (w : Items) → form_of w [] ≡ none
unfolding form_of
form_nil Samples = count-nil (number_reads 255)
form_nil Pixels = count-nil (pixel_reads Rgb)
form_nil Numbers = count-nil (number_reads largest_number)

form_close : (w : Items) (t : List ℕ) → form_of w (41 ∷ t) ≡ some (0, t)
unfolding form_of
form_close Samples = count_close (number_reads 255)
form_close Pixels = count_close (pixel_reads Rgb)
form_close Numbers = count_close (number_reads largest_number)

form_other : (w : Items) (b : ℕ) (t : List ℕ) → (b ≡ 41 → ⊥) → (b ≡ 32 → ⊥) → form_of w (b ∷ t) ≡ none
unfolding form_of
form_other Samples = count-other (number_reads 255)
form_other Pixels = count-other (pixel_reads Rgb)
form_other Numbers = count-other (number_reads largest_number)

form_blank : (w : Items) (t : List ℕ) → form_of w (32 ∷ t) ≡ on (item_of w t) (λ x. form_of w ▷ λ n. give (suc n))
unfolding form_of item_of counted
form_blank Samples t = count-blank (number_reads 255) t
form_blank Pixels t = count-blank (pixel_reads Rgb) t ∙ go (pixel_get Rgb t)
  where
    go : (o : Option (List ℕ × List ℕ)) → on o (λ x. counted (items (pixel_get Rgb)) ▷ λ n. give (suc n)) ≡ on (on o (λ xs. give (length xs))) (λ x. counted (items (pixel_get Rgb)) ▷ λ n. give (suc n))
    go none = refl
    go (some r) = refl
form_blank Numbers t = count-blank (number_reads largest_number) t

-- The state of the form's loop: n items stand between from and at.
pub record Counting (w : Items) (text : List ℕ) (from n at : ℕ) : Type 0 where
  pub same : form_of w (drop from text) ≡ on (form_of w (drop at text)) (λ m. give (n + m))
  pub there : from ≤ at
  pub few : n ≤ at

-- That of the loop over items that are numbers up to a limit.
pub record CountingNumbers (limit : ℕ) (text : List ℕ) (from n at : ℕ) : Type 0 where
  pub counting : (w : Items) → item_of w ≡ number_get limit → Counting w text from n at
  pub few : n ≤ at

pub counting_first : (limit : ℕ) (text : List ℕ) (from : ℕ) → CountingNumbers limit text from 0 from
counting_first limit text from = record { counting = λ w e. record { same = go (form_of w (drop from text)); there = omega arith; few = omega arith }; few = omega arith }
  where
    go : (o : Option (ℕ × List ℕ)) → o ≡ on o (λ m. give (0 + m))
    go none = refl
    go (some r) = let z : 0 + r.0 ≡ r.0 = omega arith in rw z

pub samples_plain : item_of Samples ≡ number_get 255
unfolding item_of
samples_plain = refl

pub numbers_plain : item_of Numbers ≡ number_get largest_number
unfolding item_of
numbers_plain = refl

module _ {w : Items} {text : List ℕ} {from : ℕ} where
  module _ {n at : ℕ} (C : Counting w text from n at) where
    pub counting-next : {v : ℕ} {c : ℕ} → at < length text → get_or text at 0 ≡ 32 → Told (item_of w) text (at + 1) (some (v, c)) → Counting w text from (n + 1) (c)
    counting-next {c = c} h e t = record { same = C.same ∙ rw (drop_more text at 0 h, e, form_blank, t.same) (go (form_of w (drop (c) text))); there = omega (arith, t.moved.0); few = omega (arith, t.moved.0) }
      where
        go : (o : Option (ℕ × List ℕ)) → on (on o (λ n. give (suc n))) (λ m. give (n + m)) ≡ on o (λ m. give (n + 1 + m))
        go none = refl
        go (some r) = let z : n + suc r.0 ≡ n + 1 + r.0 = omega arith in rw z

    pub counting-close : at < length text → get_or text at 0 ≡ 41 → Told (form_of w) text from (some (n, at + 1))
    counting-close h e = record { same = C.same ∙ rw (drop_more text at 0 h, e, form_close, add-zero); moved = (omega arith, omega arith) }

    pub counting-broken : at < length text → get_or text at 0 ≡ 32 → Told (item_of w) text (at + 1) none → Told (form_of w) text from none
    counting-broken h e t = record { same = C.same ∙ rw (drop_more text at 0 h, e, form_blank, t.same); moved = tt }

    pub counting-other : at < length text → (get_or text at 0 ≡ 41 → ⊥) → (get_or text at 0 ≡ 32 → ⊥) → Told (form_of w) text from none
    counting-other h p q = record { same = C.same ∙ rw (drop_more text at 0 h, form_other w (get_or text at 0) (drop (at + 1) text) p q); moved = tt }

    pub counting-end : length text ≤ at → Told (form_of w) text from none
    counting-end h = record { same = C.same ∙ rw (drop_of_length-le text h, form_nil); moved = tt }

-- A pixel in brackets: a sample, and a form of two more.
pixel-step : (t : List ℕ) → item_of Pixels (40 ∷ t) ≡ (number_get 255 ▷ λ a. form_of Samples ▷ λ n. cond (eqb n 2) (give 3) (λ s. none)) t
unfolding item_of form_of counted pixel_get opening strip three
pixel-step t = go (number_get 255 t)
  where
    last : (a : ℕ) (xs s : List ℕ) (x : Bool) → eqb (length xs) 2 ≡ x → on (cond x (give (a ∷ xs)) (λ s. none) s) (λ xs. give (length xs)) ≡ cond x (give 3) (λ s. none) s
    last a xs s true e = let z = eqb-true (length xs) 2 e in rw z
    last a xs s false e = refl

    more : (a : ℕ) (o : Option (List ℕ × List ℕ)) → on (on o (λ xs. cond (eqb (length xs) 2) (give (a ∷ xs)) (λ s. none))) (λ xs. give (length xs)) ≡ on (on o (λ xs. give (length xs))) (λ n. cond (eqb n 2) (give 3) (λ s. none))
    more a none = refl
    more a (some r) = last a r.0 r.1 (eqb (length r.0) 2) refl

    go : (o : Option (ℕ × List ℕ)) → on (on o (λ a. items (number_get 255) ▷ λ xs. cond (eqb (length xs) 2) (give (a ∷ xs)) (λ s. none))) (λ xs. give (length xs)) ≡ on o (λ a. (items (number_get 255) ▷ λ xs. give (length xs)) ▷ λ n. cond (eqb n 2) (give 3) (λ s. none))
    go none = refl
    go (some r) = more r.0 (items (number_get 255) r.1)

abbrev from_sample : Get ℕ
from_sample = number_get 255 ▷ λ a. form_of Samples ▷ λ n. cond (eqb n 2) (give 3) (λ s. none)

pixel_is : (s : List ℕ) → item_of Pixels s ≡ after opening from_sample s
unfolding item_of counted pixel_get opening strip
pixel_is [] = refl
pixel_is (b ∷ t) = go (eqb 40 b) refl
  where
    go : (x : Bool) → eqb 40 b ≡ x → item_of Pixels (b ∷ t) ≡ onward (cond x (some t) none) from_sample
    go true e = rw (← eqb-true 40 b e) (pixel-step t)
    go false e = rw e

module _ {text : List ℕ} {at : ℕ} where
  pub item_none : Told (passing opening) text at none → Told (item_of Pixels) text at none
  item_none t = record { same = rw (pixel_is, passing-none opening (drop at text) t.same); moved = tt }

  module _ {u a : ℕ} (o : Told (passing opening) text at (some (u, a))) where
    bracket : (s : List ℕ) → strip opening s ≡ some (drop a text) → item_of Pixels s ≡ from_sample (drop a text)
    bracket s e = pixel_is s ∙ rw e

    open_at : item_of Pixels (drop at text) ≡ from_sample (drop a text)
    open_at = bracket (drop at text) (passing-some opening (drop at text) u (drop a text) o.same)

    pub item_no_sample : Told (number_get 255) text a none → Told (item_of Pixels) text at none
    item_no_sample t = record { same = open_at ∙ rw t.same; moved = tt }

    module _ {v b : ℕ} (t : Told (number_get 255) text a (some (v, b))) where
      pub item_no_form : Told (form_of Samples) text b none → Told (item_of Pixels) text at none
      item_no_form f = record { same = open_at ∙ rw (t.same, f.same); moved = tt }

      pub item_three : {n d : ℕ} → Told (form_of Samples) text b (some (n, d)) → n ≡ 2 → Told (item_of Pixels) text at (some (3, d))
      item_three f p = record { same = open_at ∙ rw (t.same, f.same, p); moved = (omega (arith, o.moved.0, t.moved.0, f.moved.0), f.moved.1) }

      pub item_count : {n d : ℕ} → Told (form_of Samples) text b (some (n, d)) → (n ≡ 2 → ⊥) → Told (item_of Pixels) text at none
      item_count {n} f p = record { same = open_at ∙ rw (t.same, f.same, ne_eqb n 2 p); moved = tt }

pub item_samples : {text : List ℕ} {at : ℕ} {r : Option (ℕ × ℕ)} → Told (number_get 255) text at r → Told (item_of Samples) text at r
unfolding item_of
item_samples t = t

pub item_numbers : {text : List ℕ} {at : ℕ} {r : Option (ℕ × ℕ)} → Told (number_get largest_number) text at r → Told (item_of Numbers) text at r
unfolding item_of
item_numbers t = t
