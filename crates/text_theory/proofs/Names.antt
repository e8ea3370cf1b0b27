-- Names: what is read is what is printed, and at most one stands at a place.
use mathlib.Core.Path.{◌≡◌, refl, sym, ap, ◌∙◌}
use mathlib.Core.Bool.{Bool, true, false, ◌&&◌, ◌||◌, cond, false≢true}
use mathlib.Core.Option.{Option, none, some, none-ne-some, some-injective}
use mathlib.Core.List.{List, [], ◌∷◌, ◌++◌}
use Prim.Native.Nat.{ℕ, zero, suc, ◌<◌}
use native.Mathlib.Omega.{arith}
use lib.Dec.{eqb}
use lib.ListN.{length, get_or}
use borrow.Author.Tests.{eqb-true}
use Rattle.grids.proofs.Shapes.{Any}
use Rattle.grids.proofs.Bools.{both}
use Rattle.pictures.specs.declared.sizes.Kind.{Kind}
use Rattle.pictures.specs.declared.sizes.Kind.TheVariants as kind
use Rattle.energy.specs.declared.methods.EnergyRule.{EnergyRule}
use Rattle.energy.specs.declared.methods.EnergyRule.TheVariants as rule
use Rattle.text_theory.specs.declared.Name.{Name}
use Rattle.text_theory.specs.declared.Name.TheVariants as name
use Rattle.text_theory.specs.Readers.{Get, give, on, strip, onward, after, either, known}
use Rattle.text_theory.specs.Words.{name_text, name_number, all_names, name_at, one_of, name_get, named, called, called_get, kind_name, all_kinds, kind_text, kind_get, rule_name, all_rules, rule_text, rule_get}
use Rattle.text_theory.proofs.Pairs.{Reads, strip_back, on_inv, after_inv}

-- What is read is the text of the name that was read.
pub one-sound : (ns : List Name) (s : List ℕ) (r : Name × List ℕ) → one_of ns s ≡ some r → s ≡ name_text r.0 ++ r.1
unfolding one_of
one-sound [] s r h = absurd (none-ne-some _ h)
one-sound (n ∷ ns) s r h = go (after (name_text n) (give n) s) refl h (one-sound ns s r)
  where
    go : (o : Option (Name × List ℕ)) → after (name_text n) (give n) s ≡ o → either o (one_of ns s) ≡ some r → (one_of ns s ≡ some r → s ≡ name_text r.0 ++ r.1) → s ≡ name_text r.0 ++ r.1
    go (some q) e h k =
        let p = after_inv (name_text n) (give n) s r (e ∙ h) in
        let z : r ≡ (n, p.0) = cc p.2 in
        rw z p.1
    go none e h k = k h

pub name_sound : (s : List ℕ) (r : Name × List ℕ) → name_get s ≡ some r → s ≡ name_text r.0 ++ r.1
unfolding name_get
name_sound = one-sound all_names

-- Each name has its own number.
pub number_name : (n : Name) → (name_number n < length all_names) × (name_at (name_number n) ≡ n)
number_name name.Multi = (omega arith, refl)
number_name name.Size = (omega arith, refl)
number_name name.Range = (omega arith, refl)
number_name name.Energy = (omega arith, refl)
number_name name.Row = (omega arith, refl)
number_name name.Map = (omega arith, refl)
number_name name.Grey = (omega arith, refl)
number_name name.Rgb = (omega arith, refl)
number_name name.Edge = (omega arith, refl)
number_name name.Flat = (omega arith, refl)
number_name name.Forward = (omega arith, refl)

pub number_same : (n m : Name) → name_number m ≡ name_number n → m ≡ n
number_same n m e = sym (number_name m).1 ∙ ap name_at e ∙ (number_name n).1

-- The value that a name gives has that name.
pub called-sound : {A : Type 0} (f : A → Name) (xs : List A) (n : Name) (a : A) → called f xs n ≡ some a → n ≡ f a
called-sound f [] n a h = absurd (none-ne-some _ h)
called-sound f (x ∷ xs) n a h = go (eqb (name_number (f x)) (name_number n)) refl h (called-sound f xs n a)
  where
    go : (t : Bool) → eqb (name_number (f x)) (name_number n) ≡ t → cond t (some x) (called f xs n) ≡ some a → (called f xs n ≡ some a → n ≡ f a) → n ≡ f a
    go true e h k = sym (number_same n (f x) (eqb-true _ _ e)) ∙ ap f (some-injective x a h)
    go false e h k = k h

known_inv : {A : Type 0} (o : Option A) (s : List ℕ) (r : A × List ℕ) → known o s ≡ some r → (o ≡ some r.0) × (r.1 ≡ s)
known_inv none s r h = absurd (none-ne-some _ h)
known_inv (some a) s r h = let z : r ≡ (a, s) = cc in rw z (refl, refl)

-- Two texts that differ at some place of both. No text begins with both.
unfoldable pub apart : List ℕ → List ℕ → Bool
apart [] w = false
apart (a ∷ v) [] = false
apart (a ∷ v) (b ∷ w) = cond (eqb a b) (apart v w) true

pub apart-strip : (v w t : List ℕ) → apart v w ≡ true → strip v (w ++ t) ≡ none
unfolding apart strip
apart-strip (a ∷ v) (b ∷ w) t h = go (eqb a b) h (apart-strip v w t)
  where
    go : (x : Bool) → cond x (apart v w) true ≡ true → (apart v w ≡ true → strip v (w ++ t) ≡ none) → cond x (strip v (w ++ t)) none ≡ none
    go true h k = k h
    go false h k = refl
apart-strip [] w t h = absurd (false≢true h)
apart-strip (a ∷ v) [] t h = absurd (false≢true h)

-- A test that every name passes: it is computed once over all of them.
abbrev pub every : {A : Type 0} → (A → Bool) → List A → Bool
every f [] = true
every f (x ∷ xs) = f x && every f xs

pub every_at : {A : Type 0} (f : A → Bool) (xs : List A) → every f xs ≡ true → (i : ℕ) (d : A) → i < length xs → f (get_or xs i d) ≡ true
every_at f [] h i d l = absurd (omega arith)
every_at f (x ∷ xs) h zero d l = (both (f x) (every f xs) h).0
every_at f (x ∷ xs) h (suc i) d l = every_at f xs (both (f x) (every f xs) h).1 i d (omega arith)

pub each_name : (f : Name → Bool) → every f all_names ≡ true → (n : Name) → f n ≡ true
each_name f h n = ap f (sym (number_name n).1) ∙ every_at f all_names h (name_number n) name.Multi (number_name n).0

-- None of the names that are looked for stands there.
none_at : (ns : List Name) (s : List ℕ) → one_of ns s ≡ none → (i : ℕ) (d : Name) → i < length ns → strip (name_text (get_or ns i d)) s ≡ none
unfolding one_of
none_at [] s h i d l = absurd (omega arith)
none_at (n ∷ ns) s h i d l = go (strip (name_text n) s) refl h i l (none_at ns s)
  where
    go : (o : Option (List ℕ)) → strip (name_text n) s ≡ o → either (onward o (give n)) (one_of ns s) ≡ none → (i : ℕ) → i < length (n ∷ ns)
        → (one_of ns s ≡ none → (i : ℕ) (d : Name) → i < length ns → strip (name_text (get_or ns i d)) s ≡ none) → strip (name_text (get_or (n ∷ ns) i d)) s ≡ none
    go (some t) e h i l k = absurd (none-ne-some _ (sym h))
    go none e h zero l k = e
    go none e h (suc i) l k = k h i d (omega arith)

-- No name begins another.
abbrev other : Name → Name → Bool
other n m = eqb (name_number m) (name_number n) || apart (name_text n) (name_text m)

names_apart : (n m : Name) → other n m ≡ true
unfolding apart
names_apart n m = each_name (other n) (each_name (λ k. every (other k) all_names) refl n) m

-- Reading this name and no other is reading its letters.
pub named_is : (n : Name) (s : List ℕ) → named n s ≡ after (name_text n) (give 0) s
unfolding named name_get
named_is n s = go (one_of all_names s) refl
  where
    same : (m : Name) (t : List ℕ) (x : Bool) → eqb (name_number m) (name_number n) ≡ x → s ≡ name_text m ++ t
        → cond {A = Get ℕ} x (give 0) (λ s. none) t ≡ after (name_text n) (give 0) s
    same m t true e f = let z : m ≡ n = number_same n m (eqb-true _ _ e) in rw (f, z, strip_back (name_text n) t)
    same m t false e f =
        let b : apart (name_text n) (name_text m) ≡ true = rw e at (names_apart n m) in
        rw (f, apart-strip (name_text n) (name_text m) t b)

    go : (o : Option (Name × List ℕ)) → one_of all_names s ≡ o → on {B = ℕ} o (λ m. cond (eqb (name_number m) (name_number n)) (give 0) (λ s. none)) ≡ after (name_text n) (give 0) s
    go none e = let z = none_at all_names s e (name_number n) name.Multi (number_name n).0 in rw (rw (number_name n).1 at z)
    go (some r) e = same r.0 r.1 (eqb (name_number r.0) (name_number n)) refl (one-sound all_names s r e)

-- A name is read back,
name_back : (n : Name) (t : List ℕ) → name_get (name_text n ++ t) ≡ some (n, t)
unfolding named
name_back n t =
    let alone : named n (name_text n ++ t) ≡ some (0, t) = rw (named_is n (name_text n ++ t), strip_back (name_text n) t) in
    let p = on_inv (name_get (name_text n ++ t)) (λ m. cond (eqb (name_number m) (name_number n)) (give 0) (λ s. none)) (0, t) alone in
    p.1 ∙ same p.0.0 p.0.1 (eqb (name_number p.0.0) (name_number n)) refl p.2
  where
    same : (m : Name) (u : List ℕ) (x : Bool) → eqb (name_number m) (name_number n) ≡ x → cond {A = Get ℕ} x (give 0) (λ s. none) u ≡ some (0, t)
        → ◌≡◌ {A = Option (Name × List ℕ)} (some (m, u)) (some (n, t))
    same m u true e h =
        let z : m ≡ n = number_same n m (eqb-true _ _ e) in
        let w : u ≡ t = ap (λ (r : ℕ × List ℕ). r.1) (some-injective (0, u) (0, t) h) in
        rw (z, w)
    same m u false e h = absurd (none-ne-some _ h)

-- and so is a value by its name, where the name finds it.
module _ {A : Type 0} (f : A → Name) (xs : List A) (found : (a : A) → called f xs (f a) ≡ some a) where
  called_back : (a : A) (t : List ℕ) → called_get f xs (name_text (f a) ++ t) ≡ some (a, t)
  called_back a t = rw (name_back (f a) t, found a)

  called-read : (s : List ℕ) (r : A × List ℕ) → called_get f xs s ≡ some r → s ≡ name_text (f r.0) ++ r.1
  called-read s r h =
      let p = on_inv (name_get s) (λ n. known (called f xs n)) r h in
      let k = known_inv (called f xs p.0.0) p.0.1 r p.2 in
      cc (name_sound s p.0 p.1, called-sound f xs p.0.0 r.0 k.0, k.1)

  called_reads : Reads (λ a. Unit) (λ a. name_text (f a)) Any (called_get f xs)
  called_reads = record { back = λ a u t v. called_back a t; sound = λ s r h. (called-read s r h, tt) }

-- Kinds and energy rules are read so.
kind_found : (k : Kind) → called kind_name all_kinds (kind_name k) ≡ some k
kind_found kind.Grey = refl
kind_found kind.Rgb = refl

pub kind_reads : Reads (λ k. Unit) kind_text Any kind_get
unfolding kind_text kind_get
kind_reads = called_reads kind_name all_kinds kind_found

rule_found : (e : EnergyRule) → called rule_name all_rules (rule_name e) ≡ some e
rule_found rule.Edge = refl
rule_found rule.Flat = refl
rule_found rule.Forward = refl

pub rule_reads : Reads (λ e. Unit) rule_text Any rule_get
unfolding rule_text rule_get
rule_reads = called_reads rule_name all_rules rule_found
