-- A reader and a printer that belong together, and laws of single steps.
use mathlib.Core.Path.{◌≡◌, refl, sym, ap, ◌∙◌}
use mathlib.Core.Bool.{Bool, true, false, cond}
use mathlib.Core.Option.{Option, none, some, none-ne-some, some-injective}
use mathlib.Core.List.{List, [], ◌∷◌, ◌++◌, append_assoc}
use Prim.Native.Nat.{ℕ, ◌≤◌, ◌<◌}
use native.Mathlib.Omega.{arith}
use lib.Dec.{eqb}
use lib.ListN.{length, length-append}
use borrow.Author.Tests.{eqb-true, eq-eqb}
use Rattle.text_theory.specs.Readers.{Get, give, on, ◌▷◌, strip, onward, after}

-- `get` reads what `put` prints, where `stop` holds of what stands after; and it reads nothing else.
pub record Reads {A : Type 0} (ok : A → Type 0) (put : A → List ℕ) (stop : List ℕ → Type 0) (get : Get A) : Type 0 where
  pub back : (a : A) → ok a → (t : List ℕ) → stop t → get (put a ++ t) ≡ some (a, t)
  pub sound : (s : List ℕ) (r : A × List ℕ) → get s ≡ some r → (s ≡ put r.0 ++ r.1) × ok r.0

-- So no two values have one text.
pub reads_injective : {A : Type 0} {ok : A → Type 0} {put : A → List ℕ} {stop : List ℕ → Type 0} {get : Get A} → Reads ok put stop get → stop []
    → (a b : A) → ok a → ok b → put a ≡ put b → a ≡ b
reads_injective {get = get} R s a b h k e =
    ap (λ r. r.0) (some-injective _ _ (sym (R.back a h [] s) ∙ ap (λ (w : List ℕ). get (w ++ [])) e ∙ R.back b k [] s))

pub strip_back : (w t : List ℕ) → strip w (w ++ t) ≡ some t
unfolding strip
strip_back [] t = refl
strip_back (b ∷ w) t = rw (eq-eqb b b refl) (strip_back w t)

pub strip-sound : (w s t : List ℕ) → strip w s ≡ some t → s ≡ w ++ t
unfolding strip
strip-sound [] s t h = cc
strip-sound (b ∷ w) [] t h = absurd (none-ne-some _ h)
strip-sound (b ∷ w) (c ∷ s) t h = go (eqb b c) refl h (strip-sound w s t)
  where
    go : (x : Bool) → eqb b c ≡ x → cond x (strip w s) none ≡ some t → (strip w s ≡ some t → s ≡ w ++ t) → c ∷ s ≡ b ∷ (w ++ t)
    go true e f k = let p = eqb-true b c e in let q = k f in cc
    go false e f k = absurd (none-ne-some _ f)

pub strip_shorter : (w s t : List ℕ) → 0 < length w → strip w s ≡ some t → length t < length s
strip_shorter w s t p h = omega (arith, simp length-append at (ap length (strip-sound w s t h)))

module _ {A B : Type 0} where
  pub on_inv : (o : Option (A × List ℕ)) (f : A → Get B) (r : B × List ℕ) → on o f ≡ some r → (q : A × List ℕ) × (o ≡ some q) × (f q.0 q.1 ≡ some r)
  on_inv none f r h = absurd (none-ne-some _ h)
  on_inv (some q) f r h = (q, refl, h)

  pub on_same : (o : Option (A × List ℕ)) (f k : A → Get B) → ((q : A × List ℕ) → o ≡ some q → f q.0 q.1 ≡ k q.0 q.1) → on o f ≡ on o k
  on_same none f k h = refl
  on_same (some q) f k h = h q refl

module _ {A : Type 0} (w : List ℕ) (g : Get A) where
  pub after_inv : (s : List ℕ) (r : A × List ℕ) → after w g s ≡ some r → (t : List ℕ) × (s ≡ w ++ t) × (g t ≡ some r)
  after_inv s r h = go (strip w s) refl h
    where
      go : (o : Option (List ℕ)) → strip w s ≡ o → onward o g ≡ some r → (t : List ℕ) × (s ≡ w ++ t) × (g t ≡ some r)
      go none e h = absurd (none-ne-some _ h)
      go (some t) e h = (t, strip-sound w s t e, h)

-- What a reader leaves is no longer than what it was given.
pub short : {A : Type 0} {ok : A → Type 0} {put : A → List ℕ} {stop : List ℕ → Type 0} {g : Get A} → Reads ok put stop g → (s : List ℕ) (r : A × List ℕ) → g s ≡ some r → length r.1 ≤ length s
short R s r h = omega (arith, simp length-append at (ap length (R.sound s r h).0))

-- What a reader reads after `done` makes with it what `put` prints of the value read.
pub record Sounds {B : Type 0} (ok : B → Type 0) (put : B → List ℕ) (done : List ℕ) (k : Get B) : Type 0 where
  pub sounds : (s : List ℕ) (r : B × List ℕ) → k s ≡ some r → (done ++ s ≡ put r.0 ++ r.1) × ok r.0

module _ {B : Type 0} {ok : B → Type 0} {put : B → List ℕ} {done : List ℕ} where
  pub give_sounds : (b : B) → done ≡ put b → ok b → Sounds ok put done (give b)
  give_sounds b e h = record { sounds = λ s r f. let z : r ≡ (b, s) = cc in rw z (rw e, h) }

  pub after_sounds : (w : List ℕ) {g : Get B} → Sounds ok put (done ++ w) g → Sounds ok put done (after w g)
  after_sounds w {g} k = record {
    sounds = λ s r h.
        let p = after_inv w g s r h in
        let m = k.sounds p.0 r p.2 in
        (cc (p.1, append_assoc done w p.0, m.0), m.1);
  }

  pub then_sounds : {A : Type 0} {ok' : A → Type 0} {put' : A → List ℕ} {stop : List ℕ → Type 0} {g : Get A} {f : A → Get B}
      → Reads ok' put' stop g → ((a : A) → ok' a → Sounds ok put (done ++ put' a) (f a)) → Sounds ok put done (g ▷ f)
  then_sounds {put' = put'} {g = g} {f = f} R k = record {
    sounds = λ s r h.
        let p = on_inv (g s) f r h in
        let l = R.sound s p.0 p.1 in
        let m = (k p.0.0 l.1).sounds p.0.1 r p.2 in
        (cc (l.0, append_assoc done (put' p.0.0) p.0.1, m.0), m.1);
  }

pub soundly : {B : Type 0} {ok : B → Type 0} {put : B → List ℕ} {k : Get B} → Sounds ok put [] k → (s : List ℕ) (r : B × List ℕ) → k s ≡ some r → (s ≡ put r.0 ++ r.1) × ok r.0
soundly S = S.sounds
