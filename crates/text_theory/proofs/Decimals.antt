-- Decimal numbers: `number_get` reads what `digits` prints.
use mathlib.Core.Path.{◌≡◌, refl, ap, ◌∙◌}
use mathlib.Core.Bool.{Bool, true, false, ◌&&◌, cond}
use mathlib.Core.Option.{none, some, none-ne-some}
use mathlib.Core.List.{List, [], ◌∷◌, ◌++◌, append_assoc}
use Prim.Native.Nat.{ℕ, zero, suc, ◌+◌, ◌-◌, ◌*◌, ◌/◌, ◌%◌, ◌≤◌, ◌<◌}
use native.Mathlib.Nat.{div-lt_self, div-add-mod', mod-lt}
use native.Mathlib.Omega.{arith}
use lib.Arith.{digits_div, digits_mod}
use lib.Dec.{leb, ltb, eqb}
use lib.ListN.{length, length-append}
use borrow.Author.Tests.{ltb-true, ltb-false, lt-ltb, le-ltb, leb-true, le-leb, eqb-true, eqb-false, ne_eqb}
use Rattle.text_theory.specs.Decimal.{digits_up_to, digits, is_digit, further, up_to, number_get}
use Rattle.text_theory.proofs.Pairs.{Reads}

-- A number's digits end here.
abbrev pub clear : List ℕ → Type 0
clear [] = Unit
clear (b ∷ t) = is_digit b ≡ false

pub tenth : (n : ℕ) → 10 ≤ n → n / 10 < n
tenth n h = div-lt_self (omega arith) (omega arith)

tenth-pos : (n : ℕ) → 10 ≤ n → 0 < n / 10
tenth-pos n h = omega (arith, div-add-mod' n 10, mod-lt n {m = 10} (omega arith))

pub digits_same : (k m n : ℕ) → n < k → n < m → digits_up_to k n ≡ digits_up_to m n
unfolding digits_up_to
digits_same zero m n p q = absurd (omega arith)
digits_same (suc k) zero n p q = absurd (omega arith)
digits_same (suc k) (suc m) n p q = go (ltb n 10) refl (digits_same k m (n / 10))
  where
    go : (x : Bool) → ltb n 10 ≡ x → (n / 10 < k → n / 10 < m → digits_up_to k (n / 10) ≡ digits_up_to m (n / 10))
        → cond x ((48 + n) ∷ []) (digits_up_to k (n / 10) ++ (48 + n % 10) ∷ []) ≡ cond x ((48 + n) ∷ []) (digits_up_to m (n / 10) ++ (48 + n % 10) ∷ [])
    go true e f = refl
    go false e f = let l = tenth n (ltb-false n 10 e) in rw (f (omega arith) (omega arith))

pub digits_small : (n : ℕ) → n < 10 → digits n ≡ (48 + n) ∷ []
unfolding digits digits_up_to
digits_small n h = rw (lt-ltb n 10 h)

pub digits-large : (n : ℕ) → 10 ≤ n → digits n ≡ digits (n / 10) ++ (48 + n % 10) ∷ []
unfolding digits digits_up_to
digits-large n h =
    let l = tenth n h in
    rw (le-ltb n 10 h, digits_same n (suc (n / 10)) (n / 10) l (omega arith))

-- How many there are.
pub length_small : (n : ℕ) → n < 10 → length (digits n) ≡ 1
length_small n h = rw (digits_small n h)

pub length-large : (n : ℕ) → 10 ≤ n → length (digits n) ≡ length (digits (n / 10)) + 1
length-large n h = rw (digits-large n h, length-append)

pub digits_step : (q d : ℕ) → 0 < q → d < 10 → digits (q * 10 + d) ≡ digits q ++ (48 + d) ∷ []
digits_step q d p h = digits-large (q * 10 + d) (omega arith) ∙ rw (digits_div q h, digits_mod q h)

pub digit_true : (b : ℕ) → is_digit b ≡ true → (48 ≤ b) × (b ≤ 57)
unfolding is_digit
digit_true b h = go (leb 48 b) (leb b 57) refl refl h
  where
    go : (x y : Bool) → leb 48 b ≡ x → leb b 57 ≡ y → x && y ≡ true → (48 ≤ b) × (b ≤ 57)
    go true true e f h = (leb-true 48 b e, leb-true b 57 f)
    go true false e f h = let z : ◌≡◌ {A = ℕ} 0 1 = cc in absurd (omega arith)
    go false y e f h = let z : ◌≡◌ {A = ℕ} 0 1 = cc in absurd (omega arith)

pub is_digit_lem : (b : ℕ) → 48 ≤ b → b ≤ 57 → is_digit b ≡ true
unfolding is_digit
is_digit_lem b p q = rw (le-leb 48 b p, le-leb b 57 q)

further-step : (n b : ℕ) (s : List ℕ) → is_digit b ≡ true → further n (b ∷ s) ≡ further (n * 10 + (b - 48)) s
unfolding further
further-step n b s h = rw h

further-clear : (n : ℕ) (t : List ℕ) → clear t → further n t ≡ (n, t)
unfolding further
further-clear n [] h = refl
further-clear n (b ∷ t) h = rw h

further-sound : (s : List ℕ) (n : ℕ) → 0 < n → digits n ++ s ≡ digits (further n s).0 ++ (further n s).1
unfolding further
further-sound [] n p = refl
further-sound (b ∷ s) n p = go (is_digit b) refl (further-sound s (n * 10 + (b - 48)))
  where
    go : (x : Bool) → is_digit b ≡ x → (0 < n * 10 + (b - 48) → digits (n * 10 + (b - 48)) ++ s ≡ digits (further (n * 10 + (b - 48)) s).0 ++ (further (n * 10 + (b - 48)) s).1)
        → digits n ++ b ∷ s ≡ digits (cond x (further (n * 10 + (b - 48)) s) (n, b ∷ s)).0 ++ (cond x (further (n * 10 + (b - 48)) s) (n, b ∷ s)).1
    go true e f =
        let d = digit_true b e in
        let c : 48 + (b - 48) ≡ b = omega arith in
        rw (← f (omega arith), digits_step n (b - 48) p (omega arith), append_assoc, c)
    go false e f = refl

pub number_digit : (limit b : ℕ) (s : List ℕ) → is_digit b ≡ true → 48 < b → number_get limit (b ∷ s) ≡ up_to limit (further (b - 48) s)
unfolding number_get
number_digit limit b s h p = rw (h, ne_eqb b 48 (λ e. omega arith))

read-digits : (limit k n : ℕ) (t : List ℕ) → n < k → 0 < n → number_get limit (digits_up_to k n ++ t) ≡ up_to limit (further n t)
unfolding digits_up_to
read-digits limit zero n t p q = absurd (omega arith)
read-digits limit (suc k) n t p q = go (ltb n 10) refl (read-digits limit k (n / 10) ((48 + n % 10) ∷ t))
  where
    go : (x : Bool) → ltb n 10 ≡ x → (n / 10 < k → 0 < n / 10 → number_get limit (digits_up_to k (n / 10) ++ (48 + n % 10) ∷ t) ≡ up_to limit (further (n / 10) ((48 + n % 10) ∷ t)))
        → number_get limit (cond x ((48 + n) ∷ []) (digits_up_to k (n / 10) ++ (48 + n % 10) ∷ []) ++ t) ≡ up_to limit (further n t)
    go true e f =
        let l = ltb-true n 10 e in
        let c : 48 + n - 48 ≡ n = omega arith in
        number_digit limit (48 + n) t (is_digit_lem (48 + n) (omega arith) (omega arith)) (omega arith) ∙ rw c
    go false e f =
        let h = ltb-false n 10 e in
        let l = tenth n h in
        let m = mod-lt n {m = 10} (omega arith) in
        let c : n / 10 * 10 + (48 + n % 10 - 48) ≡ n = omega (arith, div-add-mod' n 10) in
        rw append_assoc (f (omega arith) (tenth-pos n h) ∙ ap (up_to limit) (further-step (n / 10) (48 + n % 10) t (is_digit_lem (48 + n % 10) (omega arith) (omega arith)) ∙ rw c))

module _ (limit : ℕ) where
  number_back : (n : ℕ) → n ≤ limit → (t : List ℕ) → clear t → number_get limit (digits n ++ t) ≡ some (n, t)
  unfolding digits up_to number_get digits_up_to is_digit
  number_back zero h t c = refl
  number_back (suc n) h t c = read-digits limit (suc (suc n)) (suc n) t (omega arith) (omega arith) ∙ rw (further-clear (suc n) t c, le-leb (suc n) limit h)

  number-sound : (s : List ℕ) (r : ℕ × List ℕ) → number_get limit s ≡ some r → (s ≡ digits r.0 ++ r.1) × (r.0 ≤ limit)
  unfolding number_get up_to
  number-sound [] r h = absurd (none-ne-some _ h)
  number-sound (b ∷ s) r h = go (is_digit b) (eqb b 48) refl refl h
    where
      last : (x : Bool) → is_digit b ≡ true → (b ≡ 48 → ⊥) → leb (further (b - 48) s).0 limit ≡ x → cond x (some (further (b - 48) s)) none ≡ some r → (b ∷ s ≡ digits r.0 ++ r.1) × (r.0 ≤ limit)
      last true e n l h =
          let d = digit_true b e in
          let z : r ≡ further (b - 48) s = cc in
          let c : 48 + (b - 48) ≡ b = omega arith in
          let p : 0 < b - 48 = omega arith in
          rw z (rw (← further-sound s (b - 48) p, digits_small (b - 48) (omega arith), c), leb-true _ _ l)
      last false e n l h = absurd (none-ne-some _ h)

      go : (x y : Bool) → is_digit b ≡ x → eqb b 48 ≡ y → cond x (cond y (some (0, s)) (up_to limit (further (b - 48) s))) none ≡ some r → (b ∷ s ≡ digits r.0 ++ r.1) × (r.0 ≤ limit)
      go true true e f h =
          let z : r ≡ (0, s) = cc in
          rw z (rw (digits_small 0 (omega arith), eqb-true b 48 f), omega arith)
      go true false e f h = last _ e (eqb-false b 48 f) refl h
      go false y e f h = absurd (none-ne-some _ h)

  pub number_reads : Reads (λ n. n ≤ limit) digits clear (number_get limit)
  number_reads = record { back = number_back; sound = number-sound }
