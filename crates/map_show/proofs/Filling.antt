-- A space that is filled from the front: what was written, what is still to come, and after it what stood there.
use mathlib.Core.Path.{◌≡◌, refl, sym, ap, ◌∙◌}
use mathlib.Core.List.{List, [], ◌∷◌, ◌++◌, append-nil, append_assoc}
use Prim.Native.Nat.{ℕ, suc, ◌+◌, ◌-◌, ◌≤◌}
use borrow.Rule.Slice.PartMut.{put_mid}
use native.Mathlib.Nat.{add-zero}
use native.Mathlib.Omega.{arith}
use lib.ListN.{length, take, drop, set, length-append, length-drop}
use lib.Seq.{sets, sets-eq, take_at, drop_at, drop-drop}

-- Stores one after the other.
pub sets_append : (p q out : List ℕ) (at : ℕ) → sets (sets out at p) (at + length p) q ≡ sets out at (p ++ q)
sets_append [] q out at = rw add-zero
sets_append (a ∷ p) q out at =
    let z : at + suc (length p) ≡ suc at + length p = omega arith in
    rw z (sets_append p q (set out at a) (suc at))

-- A part of the space in which n bytes were put.
pub part-put : (at n : ℕ) (out p : List ℕ) → at + n ≤ length out → length p ≡ n → put_mid at (at + n - at) out p ≡ sets out at p
part-put at n out p h e =
    let k : at + n - at ≡ length p = omega (arith, e) in
    rw (k, drop-drop (length p) at out) (sym (sets-eq p out at (omega (arith, e)) ∙ append_assoc (take at out) p (drop (at + length p) out)))

-- `whole` goes into the space `before`; now the space is `out`, and from the place `at` on `rest` is still to come.
pub record Filling (before whole out : List ℕ) (at : ℕ) (rest : List ℕ) : Type 0 where
  pub done : List ℕ
  pub parts : done ++ rest ≡ whole
  pub place : length done ≡ at
  pub bytes : out ≡ done ++ drop at before
  pub room : length whole ≤ length before

pub fill_start : {before whole : List ℕ} → length whole ≤ length before → Filling before whole before 0 whole
fill_start h = record { done = []; parts = refl; place = refl; bytes = refl; room = h }

module _ {before whole out : List ℕ} {at : ℕ} where
  -- The same bytes to come, said in another way.
  pub fill_as : {rest more : List ℕ} → rest ≡ more → Filling before whole out at rest → Filling before whole out at more
  fill_as e f = record { done = f.done; parts = ap (f.done ++◌) (sym e) ∙ f.parts; place = f.place; bytes = f.bytes; room = f.room }

  pub fill_size : {rest : List ℕ} → Filling before whole out at rest → length out ≡ length before
  fill_size {rest} f =
      ap length f.bytes ∙ length-append f.done (drop at before)
      ∙ omega (arith, length-drop at before, f.place, f.room, ap length f.parts, length-append f.done rest)

  module _ (p rest : List ℕ) {n : ℕ} (long : length p ≡ n) (f : Filling before whole out at (p ++ rest)) where
    -- There is room for what comes next,
    pub fill-room : at + n ≤ length out
    fill-room =
        omega (arith, fill_size f, f.place, f.room, ap length f.parts, length-append f.done (p ++ rest), length-append p rest)

    -- and it is written.
    pub fill_more : Filling before whole (sets out at p) (at + n) rest
    fill_more = record {
      done = f.done ++ p;
      parts = append_assoc f.done p rest ∙ f.parts;
      place = omega (arith, length-append f.done p, f.place);
      bytes =
          let front : take at out ≡ f.done = rw f.bytes (take_at f.done (drop at before) at f.place) in
          let past : drop at out ≡ drop at before = rw f.bytes (drop_at f.done (drop at before) at f.place) in
          let back : drop (at + n) out ≡ drop (at + n) before = sym (drop-drop n at out) ∙ ap (drop n) past ∙ drop-drop n at before in
          sets-eq p out at (omega (arith, fill-room)) ∙ rw (front, long, back);
      room = f.room;
    }

  -- Nothing is to come.
  pub fill_end : Filling before whole out at [] → out ≡ whole ++ drop (length whole) before
  fill_end f =
      let all : f.done ≡ whole = sym (append-nil f.done) ∙ f.parts in
      let long : length whole ≡ at = sym (ap length all) ∙ f.place in
      f.bytes ∙ rw (all, long)
