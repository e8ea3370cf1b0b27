-- What a layer above knows of these operations where nothing is refused.
use mathlib.Core.Path.{◌≡◌, refl, ap, ◌∙◌}
use Rattle.std.specs.Prelude.{Result}
use mathlib.Core.List.{List, [], ◌∷◌, ◌++◌}
use Prim.Native.Nat.{ℕ, ◌≤◌}
use lib.Dec.{ltb}
use borrow.Author.Tests.{le-ltb}
use lib.ListN.{length, drop}
use Rattle.grids.specs.Exchange.{exchange}
use Rattle.pictures.specs.declared.sizes.Size.{Size}
use Rattle.pictures.specs.declared.refusals.Refusal.{Refusal}
use Rattle.pictures.specs.Refusals.{◌when◌, given, refusal, served}
use Rattle.pictures.specs.Pictures.{picture_bytes, size_rules, picture, bytes, side_rules}
use Rattle.pictures.proofs.Rules.{served-first}
use Rattle.seam_moves.specs.Moving.{ExchangeGiven}
use Rattle.seam_bounds.specs.Inner.{PlacesApart}
use Rattle.seam_bounds.proofs.Moving.{are_places}
use Rattle.seam_moves.specs.Between.{part_at, put_at, copy_between_rules, CopyBetweenGiven, ExchangeBetweenGiven}

-- A picture of its size, and room for it: the exchanged picture stands at the front of the space.
module _ (b : List ℕ) (z : Size) (to to' : List ℕ) (v : Result (Unit {0}) Refusal) (g : ExchangeGiven b z to v to') (s : refusal (size_rules z (length b)) ≡ 0) (l : picture_bytes z ≤ length to) where
  pub exchange_none : given v ≡ 0
  exchange_none =
      let room : refusal (8 when ltb (length to) (picture_bytes z) ∷ []) ≡ 0 = simp (le-ltb _ _ l) in
      g.number ∙ served-first (size_rules z (length b)) (8 when ltb (length to) (picture_bytes z) ∷ []) refl s ∙ room

  pub exchange-served : to' ≡ bytes z.kind (exchange z.width (picture z b)) ++ drop (picture_bytes z) to
  exchange-served = g.to_given ∙ ap (λ n. served n (bytes z.kind (exchange z.width (picture z b)) ++ drop (picture_bytes z) to) to) exchange_none

-- Two places inside the space that don't overlap: what stands at one is put at the other.
pub copy_between-served : (space : List ℕ) (from n to : ℕ) (v : Result (Unit {0}) Refusal) (space' : List ℕ) → CopyBetweenGiven space from n to v space'
    → PlacesApart (length space) from to n → space' ≡ put_at to n (part_at from n space) space
copy_between-served space from n to v space' g p =
    let none : refusal (copy_between_rules (length space) from n to) ≡ 0 = simp (are_places (length space) from to n p) in
    g.space_left ∙ ap (λ k. served k (put_at to n (part_at from n space) space) space) (g.number ∙ none)

pub exchange-between-served : (space : List ℕ) (from : ℕ) (z : Size) (to : ℕ) (v : Result (Unit {0}) Refusal) (space' : List ℕ) → ExchangeBetweenGiven space from z to v space'
    → refusal (side_rules z) ≡ 0 → PlacesApart (length space) from to (picture_bytes z)
    → space' ≡ put_at to (picture_bytes z) (bytes z.kind (exchange z.width (picture z (part_at from (picture_bytes z) space)))) space
exchange-between-served space from z to v space' g s p =
    let none : refusal (copy_between_rules (length space) from (picture_bytes z) to) ≡ 0 = simp (are_places (length space) from to (picture_bytes z) p) in
    g.space_left
    ∙ ap (λ k. served k (put_at to (picture_bytes z) (bytes z.kind (exchange z.width (picture z (part_at from (picture_bytes z) space)))) space) space)
    (g.number ∙ served-first (side_rules z) (copy_between_rules (length space) from (picture_bytes z) to) refl s ∙ none)
