-- Counting the items of a line is counting the values read from it.
use mathlib.Core.Path.{◌≡◌, refl, sym}
use mathlib.Core.Option.{Option, none, some}
use mathlib.Core.List.{List, [], ◌∷◌, map}
use Prim.Native.Nat.{ℕ, zero, suc}
use lib.ListN.{length, length-map}
use Rattle.text_rules.specs.declared.Items.TheVariants.{Numbers}
use Rattle.text_theory.specs.Readers.{Get, give, on, ◌▷◌, strip, onward, after, next, many_up_to, many}
use Rattle.text_theory.specs.Decimal.{number_get}
use Rattle.pictures.specs.declared.sizes.Kind.{Kind}
use Rattle.pictures.specs.declared.sizes.Kind.TheVariants.{Grey, Rgb}
use Rattle.pictures.specs.Numbers.{largest_number}
use Rattle.text_theory.specs.Files.{line_end, blank, closing, items, pixel_get, line}
use Rattle.text_read.specs.Answers.{counted, form_of, line_rest}
use Rattle.text_rules.specs.Items.{items_of}

-- A reader of changed values reads the values and changes them.
pub many_change : {A B : Type 0} (f : A → B) (g : Get A) (k : Get B) (e : (s : List ℕ) → k s ≡ on (g s) (λ a. give (f a))) (w : List ℕ) (n : ℕ) (s : List ℕ) → many_up_to n w k s ≡ on (many_up_to n w g s) (λ xs. give (map f xs))
unfolding many_up_to next
many_change f g k e w zero s = refl
many_change {A} {B} f g k e w (suc n) s = go (strip w s) (many_change f g k e w n)
  where
    last : (x : A) (o : Option (List A × List ℕ)) → on (on o (λ xs. give (map f xs))) (λ xs. give (f x ∷ xs)) ≡ on (on o (λ xs. give (x ∷ xs))) (λ xs. give (map f xs))
    last x none = refl
    last x (some r) = refl

    more : (o : Option (A × List ℕ)) → ((s : List ℕ) → many_up_to n w k s ≡ on (many_up_to n w g s) (λ xs. give (map f xs)))
        → on (on o (λ a. give (f a))) (λ x. many_up_to n w k ▷ λ xs. give (x ∷ xs)) ≡ on (on o (λ x. many_up_to n w g ▷ λ xs. give (x ∷ xs))) (λ xs. give (map f xs))
    more none h = refl
    more (some r) h = rw (h r.1) (last r.0 (many_up_to n w g r.1))

    go : (o : Option (List ℕ)) → ((s : List ℕ) → many_up_to n w k s ≡ on (many_up_to n w g s) (λ xs. give (map f xs)))
        → next o s k (many_up_to n w k) ≡ on (next o s g (many_up_to n w g)) (λ xs. give (map f xs))
    go none h = refl
    go (some t) h = rw (e t) (more (g t) h)

count_map : {A B : Type 0} (f : A → B) (g : Get A) (s : List ℕ) → counted (items (g ▷ λ a. give (f a))) s ≡ counted (items g) s
unfolding counted items many
count_map {A} f g s = rw (many_change f g (g ▷ λ a. give (f a)) (λ t. refl) blank (suc (length s)) s) (go (many_up_to (suc (length s)) blank g s))
  where
    last : (xs : List A) (o : Option (List ℕ)) → on (onward o (give (map f xs))) (λ xs. give (length xs)) ≡ on (onward o (give xs)) (λ xs. give (length xs))
    last xs none = refl
    last xs (some t) = rw length-map

    go : (o : Option (List A × List ℕ)) → on (on (on o (λ xs. give (map f xs))) (λ xs. after closing (give xs))) (λ xs. give (length xs)) ≡ on (on o (λ xs. after closing (give xs))) (λ xs. give (length xs))
    go none = refl
    go (some r) = last r.0 (strip closing r.1)

count-line : {A : Type 0} (g : Get A) (s : List ℕ) → counted (line g) s ≡ on (counted (items g) s) (λ n. after line_end (give n))
unfolding counted line
count-line {A} g s = go (items g s)
  where
    last : (xs : List A) (o : Option (List ℕ)) → on (onward o (give xs)) (λ xs. give (length xs)) ≡ onward o (give (length xs))
    last xs none = refl
    last xs (some t) = refl

    go : (o : Option (List A × List ℕ)) → on (on o (λ xs. after line_end (give xs))) (λ xs. give (length xs)) ≡ on (on o (λ xs. give (length xs))) (λ n. after line_end (give n))
    go none = refl
    go (some r) = last r.0 (strip line_end r.1)

pub rest-map : (s : List ℕ) → line_rest Numbers s ≡ on (line (number_get largest_number) s) (λ xs. give (length xs))
unfolding line_rest form_of counted
rest-map s = sym (count-line (number_get largest_number) s)

pub rest-row : (k : Kind) (s : List ℕ) → line_rest (items_of k) s ≡ on (line (pixel_get k) s) (λ xs. give (length xs))
unfolding line_rest form_of counted pixel_get
rest-row Grey s = rw (← count_map (λ a. a ∷ []) (number_get 255) s) (sym (count-line _ s))
rest-row Rgb s = sym (count-line _ s)
