-- What is left of a room.
use mathlib.Core.Path.{◌≡◌, refl, sym, ap, ◌∙◌}
use Rattle.std.specs.Option.{SomeIff, option_and_then}
use Rattle.std.specs.Prelude.{Bool, true, false, cond, Option, None, Some, List, [], ◌∷◌, ℕ, suc, ◌+◌, ◌-◌, ◌≤◌, ◌<◌, leb, length}
use native.Mathlib.Omega.{arith}
use borrow.Author.Tests.{le-leb, lt-leb, leb-true, leb-false}
use Rattle.text_lengths.specs.declared.Room.{Room}
use Rattle.text_lengths.specs.Sinks.{puts}
use Rattle.text_lengths.specs.Rooms.{room_takes, less}

abbrev room : ℕ → Room
room n = record { left = n }

-- A text that it has room for, and one that it hasn't.
pub room_some : (w : List ℕ) (n : ℕ) → length w ≤ n → puts room_takes (room n) w ≡ Some (room (n - length w))
unfolding puts
room_some [] n h = let z : n - 0 ≡ n = omega arith in rw z
room_some (x ∷ w) n h =
    let z : n - suc (length w) ≡ n - 1 - length w = omega arith in
    rw (le-leb 1 n (omega arith), z) (room_some w (n - 1) (omega arith))

pub room_none : (w : List ℕ) (n : ℕ) → n < length w → puts room_takes (room n) w ≡ None
unfolding puts
room_none [] n h = absurd (omega arith)
room_none (x ∷ w) n h = go (leb 1 n) refl (room_none w (n - 1))
  where
    go : (t : Bool) → leb 1 n ≡ t → (n - 1 < length w → puts room_takes (room (n - 1)) w ≡ None)
        → option_and_then (λ r. puts room_takes r w) (cond t (Some (room (n - 1))) None) ≡ None
    go true e f = let l = leb-true 1 n e in f (omega arith)
    go false e f = refl

pub less-some : (r n : ℕ) → n ≤ r → less r n ≡ Some (r - n)
unfolding less
less-some r n h = rw (le-leb n r h)

pub less_none : (r n : ℕ) → r < n → less r n ≡ None
unfolding less
less_none r n h = rw (lt-leb n r h)

-- Where something is left, there was room; where nothing is, there wasn't.
pub less-room : (r n l : ℕ) → Some l ≡ less r n → (n ≤ r) × (l ≡ r - n)
unfolding less
less-room r n l h = go (leb n r) refl h
  where
    go : (x : Bool) → leb n r ≡ x → Some l ≡ cond x (Some (r - n)) None → (n ≤ r) × (l ≡ r - n)
    go true e h = (leb-true n r e, cc)
    go false e h = cc

pub less-short : (r n : ℕ) → None ≡ less r n → r < n
unfolding less
less-short r n h = go (leb n r) refl h
  where
    go : (x : Bool) → leb n r ≡ x → None ≡ cond x (Some (r - n)) None → r < n
    go true e h = absurd cc
    go false e h = leb-false n r e

-- The room that a text leaves is the room less its length.
pub less_puts : (r : ℕ) (w : List ℕ) (l : Room) → Some l ≡ puts room_takes (room r) w → Some l.left ≡ less r (length w)
less_puts r w l h = go (leb (length w) r) refl
  where
    go : (x : Bool) → leb (length w) r ≡ x → Some l.left ≡ less r (length w)
    go true e =
        let p = leb-true (length w) r e in
        let q : Some l ≡ Some (room (r - length w)) = h ∙ room_some w r p in
        let z : l.left ≡ r - length w = cc in
        rw z (sym (less-some r (length w) p))
    go false e = absurd (let q : Some l ≡ None = h ∙ room_none w r (leb-false (length w) r e) in cc)

pub none_puts : (r : ℕ) (w : List ℕ) → None ≡ puts room_takes (room r) w → None ≡ less r (length w)
none_puts r w h = go (leb (length w) r) refl
  where
    go : (x : Bool) → leb (length w) r ≡ x → None ≡ less r (length w)
    go true e = absurd (let q : ◌≡◌ {A = Option Room} None (Some (room (r - length w))) = h ∙ room_some w r (leb-true (length w) r e) in cc)
    go false e = sym (less_none r (length w) (leb-false (length w) r e))

-- First a, then b.
pub less_then : (r a b l : ℕ) → Some l ≡ less r a → less r (a + b) ≡ less l b
unfolding less
less_then r a b l h = let p = less-room r a l h in go (leb b l) refl p.0 p.1
  where
    go : (x : Bool) → leb b l ≡ x → a ≤ r → l ≡ r - a → cond (leb (a + b) r) (Some (r - (a + b))) None ≡ cond x (Some (l - b)) None
    go true e p q =
        let z : r - (a + b) ≡ l - b = omega (arith, p, q, leb-true b l e) in
        rw (le-leb (a + b) r (omega (arith, p, q, leb-true b l e)), z)
    go false e p q = rw (lt-leb (a + b) r (omega (arith, p, q, leb-false b l e)))

-- What is left after a, less b.
pub less_after : (r t a b : ℕ) → a ≤ r → t ≡ r - a → less t b ≡ less r (a + b)
less_after r t a b h e = sym (less_then r a b t (ap Some e ∙ sym (less-some r a h)))

-- What is left of a room after a text, by the text's length.
pub room_left : (r : ℕ) (w : List ℕ) (l : ℕ) → Some l ≡ less r (length w) → Some (room l) ≡ puts room_takes (room r) w
room_left r w l e = let p = less-room r (length w) l e in rw p.1 (sym (room_some w r p.0))

pub room_short : (r : ℕ) (w : List ℕ) → None ≡ less r (length w) → None ≡ puts room_takes (room r) w
room_short r w e = sym (room_none w r (less-short r (length w) e))

pub less_none_then : (r a b : ℕ) → None ≡ less r a → None ≡ less r (a + b)
less_none_then r a b h = sym (less_none r (a + b) (omega (arith, less-short r a h)))

-- What a checked difference gives.
pub less_is : (o : Option ℕ) (r n : ℕ) → SomeIff o (n ≤ r) (r - n) → o ≡ less r n
less_is (Some l) r n h = rw h.1 (sym (less-some r n h.0))
less_is None r n h = sym (less_none r n (omega (arith, h)))
