-- Values one after the other, each after the same bytes.
use mathlib.Core.Path.{◌≡◌, refl, ap}
use mathlib.Core.Option.{Option, none, some, none-ne-some}
use mathlib.Core.List.{List, [], ◌∷◌, ◌++◌, append_assoc}
use Prim.Native.Nat.{ℕ, zero, suc, ◌≤◌, ◌<◌}
use native.Mathlib.Omega.{arith}
use lib.ListN.{length}
use Rattle.text_theory.specs.Readers.{Get, give, on, ◌▷◌, strip, next, many_up_to, many}
use Rattle.text_theory.specs.Files.{each, All}
use Rattle.text_theory.proofs.Pairs.{Reads, strip_back, strip-sound, strip_shorter, on_inv, on_same, short}

next-same : {A : Type 0} (o : Option (List ℕ)) (s : List ℕ) (g : Get A) (k m : Get (List A)) → ((t : List ℕ) (q : A × List ℕ) → o ≡ some t → g t ≡ some q → k q.1 ≡ m q.1) → next o s g k ≡ next o s g m
unfolding next
next-same none s g k m h = refl
next-same {A} (some t) s g k m h = on_same (g t) _ _ (λ q e. ap (λ (o : Option (List A × List ℕ)). on o (λ xs. give (q.0 ∷ xs))) (h t q refl e))

module _ {A : Type 0} (w : List ℕ) (pos : 0 < length w) (g : Get A) (shorter : (s : List ℕ) (r : A × List ℕ) → g s ≡ some r → length r.1 ≤ length s) where
  same_bound : (n m : ℕ) (s : List ℕ) → length s < n → length s < m → many_up_to n w g s ≡ many_up_to m w g s
  unfolding many_up_to
  same_bound zero m s p q = absurd (omega arith)
  same_bound (suc n) zero s p q = absurd (omega arith)
  same_bound (suc n) (suc m) s p q = next-same (strip w s) s g _ _
      (λ t r e f. same_bound n m r.1 (omega (arith, strip_shorter w s t pos e, shorter t r f)) (omega (arith, strip_shorter w s t pos e, shorter t r f)))

  -- The definition without its bound.
  pub many-next : (s : List ℕ) → many w g s ≡ next (strip w s) s g (many w g)
  unfolding many many_up_to
  many-next s = next-same (strip w s) s g _ _
      (λ t r e f. same_bound (length s) (suc (length r.1)) r.1 (omega (arith, strip_shorter w s t pos e, shorter t r f)) (omega arith))

module _ {A : Type 0} {ok : A → Type 0} {put : A → List ℕ} {stop : List ℕ → Type 0} {g : Get A} (R : Reads ok put stop g) (w : List ℕ) (pos : 0 < length w) (again : (t : List ℕ) → stop (w ++ t)) where
  stops : (xs : List A) (t : List ℕ) → stop t → stop (each w put xs ++ t)
  unfolding each
  stops [] t h = h
  stops (x ∷ xs) t h = rw append_assoc (again _)

  many_back : (xs : List A) → All ok xs → (t : List ℕ) → (strip w t ≡ none) × stop t → many w g (each w put xs ++ t) ≡ some (xs, t)
  unfolding each next
  many_back [] a t h = rw (many-next w pos g (short R), h.0)
  many_back (x ∷ xs) a t h =
      rw (append_assoc, append_assoc, many-next w pos g (short R), strip_back, R.back x a.0 (each w put xs ++ t) (stops xs t h.1), many_back xs a.1 t h)

  up_to-sound : (n : ℕ) (s : List ℕ) (r : List A × List ℕ) → many_up_to n w g s ≡ some r → (s ≡ each w put r.0 ++ r.1) × All ok r.0
  unfolding many_up_to next each
  up_to-sound zero s r h = absurd (none-ne-some _ h)
  up_to-sound (suc n) s r h = go (strip w s) refl h (up_to-sound n)
    where
      go : (o : Option (List ℕ)) → strip w s ≡ o → next o s g (many_up_to n w g) ≡ some r
          → ((s : List ℕ) (r : List A × List ℕ) → many_up_to n w g s ≡ some r → (s ≡ each w put r.0 ++ r.1) × All ok r.0)
          → (s ≡ each w put r.0 ++ r.1) × All ok r.0
      go none e f k = let q : r ≡ ([], s) = cc in rw q (refl, tt)
      go (some t) e f k =
          let p = on_inv (g t) (λ x. many_up_to n w g ▷ λ xs. give (x ∷ xs)) r f in
          let q = on_inv (many_up_to n w g p.0.1) (λ xs. give (p.0.0 ∷ xs)) r p.2 in
          let l = R.sound t p.0 p.1 in
          let m = k p.0.1 q.0 q.1 in
          let z : r ≡ (p.0.0 ∷ q.0.0, q.0.1) = cc q.2 in
          rw z (rw (append_assoc, append_assoc) (cc (strip-sound w s t e, l.0, m.0)), (l.1, m.1))

  pub many_reads : Reads (All ok) (each w put) (λ t. (strip w t ≡ none) × stop t) (many w g)
  unfolding many
  many_reads = record { back = many_back; sound = λ s r. up_to-sound (suc (length s)) s r }

pub each_append : {A : Type 0} (w : List ℕ) (put : A → List ℕ) (xs ys : List A) → each w put (xs ++ ys) ≡ each w put xs ++ each w put ys
unfolding each
each_append w put [] ys = refl
each_append w put (x ∷ xs) ys = rw (each_append w put xs ys) (simp append_assoc)
