-- A plane whose rows are changed one by one, where only the front of a row is lent.
use mathlib.Core.Path.{◌≡◌, sym, ap, ◌∙◌}
use mathlib.Core.List.{List, [], ◌++◌, append_assoc, append-nil}
use Prim.Native.Nat.{ℕ, ◌+◌, ◌*◌, ◌≤◌, ◌<◌}
use native.Mathlib.Omega.{arith}
use borrow.Rule.Slice.PartMut.{mid_of, put_mid}
use lib.ListN.{length, take, drop, length-drop, take-append-drop, drop_of_length-le}
use lib.Seq.{length-take-le, drop-append-le, take-take}
use Rattle.grids.specs.Rows.{row_at}
use Rattle.grids.proofs.Rows.{part_end}
use Rattle.grids.proofs.Filled.{Filled, filled-later, filled-part}

-- A row of which the first k elements were lent and came back, in its plane.
front_put : {A : Type 0} (a k m : ℕ) (now new : List A) → k ≤ m → a + m ≤ length now → put_mid a k now new ≡ put_mid a m now (new ++ drop k (mid_of a m now))
front_put a k m now new l h =
    let D = drop a now in
    let room : k ≤ length (take m D) = omega (arith, length-take-le m D (omega (arith, length-drop a now))) in
    ap (λ x. take a now ++ (new ++ x)) (sym (sym (drop-append-le k (take m D) (drop m D) room) ∙ ap (drop k) (take-append-drop m D)))
    ∙ ap (take a now ++◌) (sym (append_assoc new (drop k (take m D)) (drop m D)))

-- r rows of m are as `f` says, and row r is lent, or the first k elements of it.
module _ {A : Type 0} (f : ℕ → List A) (n m : ℕ) (size : (i : ℕ) → i < n → length (f i) ≡ m) (old : List A) (room : n * m ≤ length old)
    (r : ℕ) (now : List A) (inside : r < n) (so_far : Filled f m old r now) where
  -- The row comes back.
  pub whole_turn : (new : List A) → new ≡ f r → length now ≡ length old → Filled f m old (r + 1) (put_mid (r * m) m now new)
  whole_turn new is same =
      let fits : length (take m (drop (r * m) now)) ≡ m = length-take-le m (drop (r * m) now) (omega (arith, length-drop (r * m) now, part_end r n m inside)) in
      let none : drop m (mid_of (r * m) m now) ≡ [] = drop_of_length-le (take m (drop (r * m) now)) {i = m} (omega (arith, fits)) in
      filled-part f n m size old r now inside so_far m new (omega (arith, fits)) (is ∙ sym (ap (f r ++◌) none ∙ append-nil (f r)))

  module _ (k : ℕ) (short : k ≤ m) where
    later : drop (r * m) now ≡ drop (r * m) old
    later = filled-later f n m size old r now inside so_far (r * m) (omega arith)

    -- What is lent of it is what stood there.
    pub front_lent : mid_of (r * m) k now ≡ take k (row_at m r old)
    front_lent = ap (take k) later ∙ sym (take-take k m (drop (r * m) old) short)

    -- Its front comes back.
    pub front_turn : (new : List A) → new ++ drop k (row_at m r old) ≡ f r → length now ≡ length old → Filled f m old (r + 1) (put_mid (r * m) k now new)
    front_turn new is same =
        rw (front_put (r * m) k m now new short (omega (arith, part_end r n m inside)))
        (whole_turn (new ++ drop k (mid_of (r * m) m now)) (ap (λ x. new ++ drop k (take m x)) later ∙ is) same)
