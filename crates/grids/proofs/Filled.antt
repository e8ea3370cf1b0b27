-- A space that is filled from the front by parts of one length.
use mathlib.Core.Path.{◌≡◌, refl, sym, ap, ◌∙◌}
use mathlib.Core.List.{List, [], ◌∷◌, ◌++◌, append-nil, append_assoc, map}
use Prim.Native.Nat.{ℕ, zero, suc, ◌+◌, ◌-◌, ◌*◌, ◌≤◌, ◌<◌}
use native.Mathlib.Nat.{suc-mul}
use native.Mathlib.Numerals.{add-one}
use native.Mathlib.Omega.{arith}
use borrow.Rule.Slice.PartMut.{mid_of, put_mid}
use lib.ListN.{length, take, drop, length-drop, take-append-drop, drop_of_length-le}
use lib.Seq.{take_at, drop_at, drop-drop, drop-append-le}
use Rattle.grids.specs.Table.{table}
use Rattle.grids.specs.Rows.{flat}
use Rattle.grids.proofs.Tables.{each-table}
use Rattle.grids.proofs.Rows.{length-flat, flat_snoc}

-- One part more, in a loop's terms.
pub flat-more : {A : Type 0} (f : ℕ → List A) (r : ℕ) → flat (table f (r + 1)) ≡ flat (table f r) ++ f r
flat-more f r = rw (add-one r) (flat_snoc (table f r) (f r))

pub map-append : {A B : Type 0} (f : A → B) (p q : List A) → map f (p ++ q) ≡ map f p ++ map f q
map-append f [] q = refl
map-append f (x ∷ p) q = ap (f x ∷◌) (map-append f p q)

pub map-table : {A B : Type 0} (g : A → B) (f : ℕ → A) (n : ℕ) → map g (table f n) ≡ table (λ i. g (f i)) n
map-table g f zero = refl
map-table g f (suc n) = map-append g (table f n) (f n ∷ []) ∙ ap (◌++ (g (f n) ∷ [])) (map-table g f n)

-- r parts of w elements stand at the front, and after them what stood there.
abbrev pub Filled : {A : Type 0} → (ℕ → List A) → ℕ → List A → ℕ → List A → Type 0
Filled f w old r now = now ≡ flat (table f r) ++ drop (r * w) old

module _ {A : Type 0} (f : ℕ → List A) (n w : ℕ) (size : (i : ℕ) → i < n → length (f i) ≡ w) (old : List A) where
  pub filled-length : (r : ℕ) → r ≤ n → length (flat (table f r)) ≡ r * w
  filled-length r h = length-flat (each-table f r (λ i l. size i (omega arith)))

  module _ (r : ℕ) (now : List A) (inside : r < n) (so_far : Filled f w old r now) where
    -- After the parts stands what stood there.
    pub filled-later : (m : ℕ) → r * w ≤ m → drop m now ≡ drop m old
    filled-later m h =
        let T = flat (table f r) in
        let e : r * w + (m - r * w) ≡ m = omega arith in
        let past : drop (r * w) now ≡ drop (r * w) old = rw so_far (drop_at T (drop (r * w) old) (r * w) (filled-length r (omega arith))) in
        sym (drop-drop (m - r * w) (r * w) now ∙ ap (λ i. drop i now) e) ∙ ap (drop (m - r * w)) past ∙ drop-drop (m - r * w) (r * w) old ∙ ap (λ i. drop i old) e

    -- Part r in its place.
    filled_more : Filled f w old (r + 1) (take (r * w) now ++ (f r ++ drop (r * w + w) now))
    filled_more =
        let T = flat (table f r) in
        let next : r * w + w ≡ (r + 1) * w = rw (add-one r) (sym (suc-mul r w)) in
        let front : take (r * w) now ≡ T = rw so_far (take_at T (drop (r * w) old) (r * w) (filled-length r (omega arith))) in
        let back : drop (r * w + w) now ≡ drop ((r + 1) * w) old = filled-later (r * w + w) (omega arith) ∙ ap (λ m. drop m old) next in
        rw (front, back, flat-more f r) (sym (append_assoc T (f r) (drop ((r + 1) * w) old)))

    -- The part that was lent from r * w on, as it comes back.
    pub filled-part : (k : ℕ) (new : List A) → w ≤ length (mid_of (r * w) k now) → new ≡ f r ++ drop w (mid_of (r * w) k now)
        → Filled f w old (r + 1) (put_mid (r * w) k now new)
    filled-part k new room is =
        let D = drop (r * w) now in
        let tail : drop w (take k D) ++ drop k D ≡ drop (r * w + w) now = sym (drop-append-le w (take k D) (drop k D) room) ∙ ap (drop w) (take-append-drop k D) ∙ drop-drop w (r * w) now in
        rw (is, append_assoc, tail) filled_more

  -- What was lent after the last part, as it comes back.
  pub filled-rest : (now new : List A) → Filled f w old n now → put_mid (n * w) (length now - n * w) now new ≡ flat (table f n) ++ new
  filled-rest now new so_far =
      let T = flat (table f n) in
      let k = length now - n * w in
      let front : take (n * w) now ≡ T = rw so_far (take_at T (drop (n * w) old) (n * w) (filled-length n (omega arith))) in
      let none : drop k (drop (n * w) now) ≡ [] = drop_of_length-le (drop (n * w) now) {i = k} (omega (arith, length-drop (n * w) now)) in
      rw (front, none, append-nil)
