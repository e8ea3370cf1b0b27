-- What a layer above knows of these operations where nothing is refused.
use mathlib.Core.Path.{◌≡◌, refl, sym, ap, ap₂, ◌∙◌}
use mathlib.Core.Bool.{false, not, cond}
use Rattle.std.specs.Prelude.{Result, Err}
use mathlib.Core.List.{List, [], ◌∷◌, ◌++◌}
use Prim.Native.Nat.{ℕ, ◌*◌, ◌≤◌, ◌<◌}
use lib.Dec.{eqb, ltb}
use borrow.Author.Tests.{eq-eqb, le-ltb}
use lib.ListN.{length, drop, replicate}
use Rattle.grids.specs.Cut.{cut}
use Rattle.grids.specs.Each.{Each}
use Rattle.grids.proofs.Shapes.{each-length}
use Rattle.pictures.specs.declared.sizes.Size.{Size}
use Rattle.pictures.specs.declared.refusals.Refusal.{Refusal}
use Rattle.pictures.specs.Refusals.{◌when◌, given, refusal, served}
use Rattle.pictures.specs.Pictures.{pixel_bytes, picture_bytes, size_rules, picture, bytes, picture_in}
use Rattle.pictures.proofs.Rules.{served-first, refused-kept}
use Rattle.seam_bounds.specs.Moves.{outside}
use Rattle.seam_close.specs.Closing.{close_rules}
use Rattle.seam_bounds.proofs.Moving.{each_inside}
use Rattle.seam_rules.specs.declared.answers.Axis.{Axis}
use Rattle.seam_rules.specs.declared.answers.Axis.TheVariants.{Vertical, Horizontal}
use Rattle.seam_rules.specs.Axes.{turned_size, narrowed}
use Rattle.seam_rules.specs.Cuts.{last_along, last_rules, close_along_lengths}
use Rattle.seam_rules.proofs.Rooms.{close_room, close_length}
use Rattle.seam_turn.specs.Axes.{turned, cut_along}
use Rattle.seam_turn.specs.Turning.{TurnGiven, close_along_rules, turned_in, left_work, CloseAlongGiven}

-- A picture of its size, and room for it: the turned picture stands at the front of the space.
pub turn_served : (b : List ℕ) (z : Size) (x : Axis) (to to' : List ℕ) (v : Result (Unit {0}) Refusal) → TurnGiven b z x to v to'
    → refusal (size_rules z (length b)) ≡ 0 → picture_bytes z ≤ length to
    → to' ≡ bytes z.kind (turned x z.width (picture z b)) ++ drop (picture_bytes z) to
turn_served b z x to to' v g s l =
    let none : refusal (8 when ltb (length to) (picture_bytes z) ∷ []) ≡ 0 = simp (le-ltb _ _ l) in
    g.to_given
    ∙ ap (λ n. served n (bytes z.kind (turned x z.width (picture z b)) ++ drop (picture_bytes z) to) to)
    (g.number ∙ served-first (size_rules z (length b)) (8 when ltb (length to) (picture_bytes z) ∷ []) refl s ∙ none)

-- Where the lengths are served, only 10 and 13 are left, as in closing up the picture turned.
pub close_number : (x : Axis) (z : Size) (bytes : ℕ) (s : List ℕ) (work : ℕ) → refusal (close_along_lengths x z bytes (length s) work) ≡ 0
    → (m : ℕ) → refusal (size_rules (turned_size x z) m) ≡ 0 → refusal (close_rules (turned_size x z) m s) ≡ refusal (close_along_rules x z bytes s work)
close_number x z bytes s work none m sized =
    let h = (turned_size x z).height in
    let ends = 10 when outside (turned_size x z).width s ∷ last_rules x z in
    served-first (size_rules (turned_size x z) m) (4 when not (eqb (length s) h) ∷ ends) refl sized
    ∙ ap (λ t. cond (not t) 4 (refusal (10 when outside (turned_size x z).width s ∷ last_rules x z))) (eq-eqb (length s) h (close_room x z bytes (length s) work none).seam_long)
    ∙ sym (served-first (close_along_lengths x z bytes (length s) work) ends refl none)

-- A picture of its size that stands turned where closing up takes the seam from: in the picture itself, or at the front of the work
-- space.
pub turned-stands : (x : Axis) (z : Size) (b work : List ℕ) → picture_in (turned_size x z) work ≡ turned x z.width (picture z b) → turned_in x z b work ≡ turned x z.width (picture z b)
unfolding turned_in turned
turned-stands Vertical z b work e = refl
turned-stands Horizontal z b work e = e

-- With more than one column or row, a seam inside it, and room: the picture left stands at the front.
pub close_served : (b : List ℕ) (z : Size) (x : Axis) (s work : List ℕ) (v : Result (Unit {0}) Refusal) (b' work' : List ℕ) → CloseAlongGiven b z x s work v b' work'
    → refusal (size_rules z (length b)) ≡ 0 → Each (λ c. c < (turned_size x z).width) (turned_size x z).height s → last_along x z ≡ false → picture_bytes z ≤ length work
    → picture_in (turned_size x z) work ≡ turned x z.width (picture z b)
    → b' ≡ bytes z.kind (cut_along x z s (picture z b)) ++ replicate ((turned_size x z).height * pixel_bytes z.kind) 0
unfolding cut_along
close_served b z x s work v b' work' g sized inside wide room stands =
    g.picture_left
    ∙ ap₂ (λ n p. served n (bytes z.kind (turned x (narrowed (turned_size x z)).width (cut s p)) ++ replicate ((turned_size x z).height * pixel_bytes z.kind) 0) b)
    none (turned-stands x z b work stands)
  where
    lengths : refusal (close_along_lengths x z (length b) (length s) (length work)) ≡ 0
    lengths = close_length x z (length b) (length s) (length work) (record { sized = sized; seam_long = each-length inside; room = room })

    none : given v ≡ 0
    none =
        g.number
        ∙ served-first (close_along_lengths x z (length b) (length s) (length work)) (10 when outside (turned_size x z).width s ∷ last_rules x z) refl lengths
        ∙ simp (each_inside inside, wide)

-- The work space as it was where a number refuses.
pub work_kept : (x : Axis) (z : Size) (s : List ℕ) (v : Result (Unit {0}) Refusal) (why : Refusal) → v ≡ Err why → (work : List ℕ) → work ≡ left_work x z s (given v) work
unfolding left_work
work_kept Vertical z s v why is work = refl
work_kept Horizontal z s v why is work =
    refused-kept v why is
    (bytes z.kind (cut s (picture_in (turned_size Horizontal z) work)) ++ (replicate (z.width * pixel_bytes z.kind) 0 ++ drop (picture_bytes z) work)) work
