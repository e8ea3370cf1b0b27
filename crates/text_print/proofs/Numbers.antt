-- The number of a printer's answer: 8 just where the space is too short.
use mathlib.Core.Path.{◌≡◌, refl}
use Rattle.std.specs.Prelude.{Option, None, Some, Bool, true, false, cond, List, ℕ, ◌+◌, leb, length}
use borrow.Author.Tests.{leb-true, leb-false, le-ltb, lt-ltb}
use Rattle.pictures.specs.Refusals.{refusal, SmallestGiven}
use Rattle.pictures.proofs.Rules.{given-smallest}
use Rattle.text_print.specs.Prints.{place_number, put_rules, Put}

pub put_number : (out : List ℕ) (at : ℕ) (bytes : List ℕ) (place : Option ℕ) (out' : List ℕ) → Put out at bytes place out'
    → place_number place ≡ refusal (put_rules (length out) at (length bytes))
put_number out at bytes place out' p = rw p.answer (go (leb (at + length bytes) (length out)) refl)
  where
    go : (t : Bool) → leb (at + length bytes) (length out) ≡ t
        → place_number (cond t (Some (at + length bytes)) None) ≡ refusal (put_rules (length out) at (length bytes))
    go true e = rw (le-ltb (length out) (at + length bytes) (leb-true _ _ e))
    go false e = rw (lt-ltb (length out) (at + length bytes) (leb-false _ _ e))

pub put_smallest : (space at bytes : ℕ) → SmallestGiven (put_rules space at bytes)
put_smallest space at bytes = given-smallest _ refl
