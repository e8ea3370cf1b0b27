-- Laws of pictures turned for a seam along an axis, stated once over the axis.
use mathlib.Core.Path.{◌≡◌, refl, sym, ap, ◌∙◌}
use mathlib.Core.List.{List, ◌++◌}
use Prim.Native.Nat.{ℕ}
use lib.ListN.{length, take}
use lib.Seq.{take_at}
use Rattle.grids.proofs.Exchange.{exchange-each}
use Rattle.pictures.specs.declared.sizes.Size.{Size}
use Rattle.pictures.specs.Pictures.{Picture, picture_bytes, picture, bytes, OfSize}
use Rattle.pictures.proofs.Buffers.{picture-of_size, picture_bytes_lem, length-bytes}
use Rattle.seam_rules.specs.declared.answers.Axis.{Axis}
use Rattle.seam_rules.specs.declared.answers.Axis.TheVariants.{Vertical, Horizontal}
use Rattle.seam_rules.specs.Axes.{turned_size}
use Rattle.seam_turn.specs.Axes.{turned}

pub turned-of_size : (x : Axis) (z : Size) (p : Picture) → OfSize z p → OfSize (turned_size x z) (turned x z.width p)
unfolding turned
turned-of_size Vertical z p o = o
turned-of_size Horizontal z p o = exchange-each o

-- It has the kind of the picture; so its bytes are as many as they are, and it is read back from them.
kind_same : (x : Axis) (z : Size) → (turned_size x z).kind ≡ z.kind
kind_same Vertical z = refl
kind_same Horizontal z = refl

module _ (x : Axis) (z : Size) (p : Picture) (o : OfSize z p) where
  pub length-turned : length (bytes z.kind (turned x z.width p)) ≡ picture_bytes (turned_size x z)
  length-turned = ap (λ k. length (bytes k (turned x z.width p))) (sym (kind_same x z)) ∙ length-bytes (turned_size x z) (turned x z.width p) (turned-of_size x z p o)

  pub turned_bytes_lem : picture (turned_size x z) (bytes z.kind (turned x z.width p)) ≡ turned x z.width p
  turned_bytes_lem =
      ap (λ k. picture (turned_size x z) (bytes k (turned x z.width p))) (sym (kind_same x z))
      ∙ picture_bytes_lem (turned_size x z) (turned x z.width p) (turned-of_size x z p o)

-- The turned picture read back from the front of a space.
pub turned-picture : (x : Axis) (z : Size) (b space rest : List ℕ) → length b ≡ picture_bytes z → space ≡ bytes z.kind (turned x z.width (picture z b)) ++ rest
    → picture (turned_size x z) (take (picture_bytes (turned_size x z)) space) ≡ turned x z.width (picture z b)
turned-picture x z b space rest e is =
    let t = turned_size x z in
    let o = picture-of_size z b e in
    ap (picture t) (ap (take (picture_bytes t)) is ∙ take_at (bytes z.kind (turned x z.width (picture z b))) rest (picture_bytes t) (length-turned x z (picture z b) o))
    ∙ turned_bytes_lem x z (picture z b) o
