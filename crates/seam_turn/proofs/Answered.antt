-- Where turning and closing up along an axis are not refused, their answers are Ok.
use mathlib.Core.Path.{◌≡◌, refl, ◌∙◌}
use mathlib.Core.Bool.{false}
use mathlib.Core.List.{List, [], ◌∷◌}
use Prim.Native.Nat.{ℕ, ◌≤◌, ◌<◌}
use lib.Dec.{ltb}
use borrow.Author.Tests.{le-ltb}
use lib.ListN.{length}
use Rattle.std.specs.Prelude.{Result, IsOk}
use Rattle.grids.specs.Each.{Each}
use Rattle.grids.proofs.Shapes.{each-length}
use Rattle.pictures.specs.declared.sizes.Size.{Size}
use Rattle.pictures.specs.declared.refusals.Refusal.{Refusal}
use Rattle.pictures.specs.Refusals.{◌when◌, refusal}
use Rattle.pictures.specs.Pictures.{picture_bytes, size_rules}
use Rattle.pictures.proofs.Rules.{served-first}
use Rattle.seam_bounds.specs.Moves.{outside}
use Rattle.seam_bounds.proofs.Moving.{each_inside}
use Rattle.seam_rules.specs.declared.answers.Axis.{Axis}
use Rattle.seam_rules.specs.Axes.{turned_size}
use Rattle.seam_rules.specs.Cuts.{last_along, last_rules, close_along_lengths}
use Rattle.seam_rules.proofs.Rooms.{close_length}
use Rattle.seam_close.proofs.Answered.{is_served}
use Rattle.seam_turn.specs.Turning.{TurnGiven, CloseAlongGiven}

-- Turning a picture of its size into a space with room for it.
pub turn_ok : (b : List ℕ) (z : Size) (x : Axis) (to to' : List ℕ) (v : Result Unit Refusal) → TurnGiven b z x to v to'
    → refusal (size_rules z (length b)) ≡ 0 → picture_bytes z ≤ length to → IsOk v
turn_ok b z x to to' v g s l =
    let none : refusal (8 when ltb (length to) (picture_bytes z) ∷ []) ≡ 0 = simp (le-ltb _ _ l) in
    is_served v (g.number ∙ served-first (size_rules z (length b)) (8 when ltb (length to) (picture_bytes z) ∷ []) refl s ∙ none)

-- Closing up along an axis, as closing up a picture, with room for the picture turned.
pub close_ok : (b : List ℕ) (z : Size) (x : Axis) (s work : List ℕ) (v : Result Unit Refusal) (b' work' : List ℕ) → CloseAlongGiven b z x s work v b' work'
    → refusal (size_rules z (length b)) ≡ 0 → Each (λ c. c < (turned_size x z).width) (turned_size x z).height s → last_along x z ≡ false → picture_bytes z ≤ length work
    → IsOk v
close_ok b z x s work v b' work' g sized inside wide room =
    let lengths = close_length x z (length b) (length s) (length work) (record { sized = sized; seam_long = each-length inside; room = room }) in
    is_served v (
    g.number
    ∙ served-first (close_along_lengths x z (length b) (length s) (length work)) (10 when outside (turned_size x z).width s ∷ last_rules x z) refl lengths
    ∙ simp (each_inside inside, wide)
    )
