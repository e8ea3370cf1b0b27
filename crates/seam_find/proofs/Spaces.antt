-- A space in which a part after the picture was written, and where its parts end.
use mathlib.Core.Path.{◌≡◌, sym, ap, ap₂, ◌∙◌}
use mathlib.Core.List.{List, ◌++◌, append_assoc}
use Prim.Native.Nat.{ℕ, ◌+◌, ◌-◌, ◌*◌, ◌≤◌, ◌<◌}
use native.Mathlib.Omega.{arith}
use native.Mathlib.Nat.{mul-le-mul, add-sub_of_le, add-sub_cancel_left}
use borrow.Rule.Slice.PartMut.{put_mid, mid_of}
use lib.ListN.{length, take, drop, replicate, length-append}
use lib.Seq.{take_at, drop_at, drop-drop}
use Rattle.grids.proofs.Parts.{put_part, part_length}
use Rattle.grids.proofs.Rows.{part_end}
use Rattle.pictures.specs.Limits.{most_side, most_pixels, most_picture}
use Rattle.pictures.specs.declared.sizes.Size.{Size}
use Rattle.pictures.specs.Pictures.{picture_bytes}
use Rattle.pictures.proofs.Limits.{Sides}

module _ {A : Type 0} (start front part space : List A) (p n : ℕ) (is : space ≡ front ++ (part ++ drop (p + n) start)) (long : length front ≡ p) (wide : length part ≡ n) where
  pub space-front : take p space ≡ front
  space-front = ap (take p) is ∙ take_at front (part ++ drop (p + n) start) p long

  pub space_part : take n (drop p space) ≡ part
  space_part = ap (take n) (ap (drop p) is ∙ drop_at front (part ++ drop (p + n) start) p long) ∙ take_at part (drop (p + n) start) n wide

  rest : drop (p + n) space ≡ drop (p + n) start
  rest =
      ap (drop (p + n)) (is ∙ sym (append_assoc front part (drop (p + n) start)))
      ∙ drop_at (front ++ part) (drop (p + n) start) (p + n) (omega (arith, length-append front part))

  -- After the part the space is as it was.
  pub space-rest : (e : ℕ) → p + n ≤ e → drop e space ≡ drop e start
  space-rest e h =
      let s : p + n + (e - (p + n)) ≡ e = add-sub_of_le h in
      rw (← s) (sym (drop-drop (e - (p + n)) (p + n) space) ∙ ap (drop (e - (p + n))) rest ∙ drop-drop (e - (p + n)) (p + n) start)

  -- The part as it is lent, where q is p.
  pub space_lent : (q : ℕ) → q ≡ p → take (q + n - q) (drop q space) ≡ part
  space_lent q e = ap (λ k. take k (drop q space)) (add-sub_cancel_left q n) ∙ ap (λ k. take n (drop k space)) e ∙ space_part

  -- At least the part filled with one value.
  pub space-filled : (q all : ℕ) (d : A) (filled : List A) → q ≡ p → n ≤ all → q + all ≤ length space
      → filled ≡ replicate (length (mid_of q (q + all - q) space)) d
      → put_mid q (q + all - q) space filled ≡ front ++ (replicate all d ++ drop (p + all) start)
  space-filled q all d filled e more room f =
      put_part q (q + all) space filled (omega arith)
      ∙ ap (λ r. take q space ++ (r ++ drop (q + all) space))
      (f ∙ ap (λ k. replicate k d) (part_length q (q + all) space room ∙ add-sub_cancel_left q all))
      ∙ ap (λ k. take k space ++ (replicate all d ++ drop (k + all) space)) e
      ∙ ap₂ (λ x y. x ++ (replicate all d ++ y)) space-front (space-rest (p + all) (omega arith))

-- The bounds of what stands after a picture: a byte for each pixel, and one for each pixel of every row but the first.
pub record Ends (z : Size) : Type 0 where
  pub some : 0 < z.height
  pub few : (z.height - 1) * z.width ≤ most_pixels
  pub all : z.height * z.width ≤ most_pixels
  pub rows : (z.height - 1) * z.width + z.width ≤ z.height * z.width
  pub short : picture_bytes z ≤ most_picture

pub ends : (z : Size) → Sides z → Ends z
ends z s =
    let h : z.height - 1 ≤ most_side = omega (arith, s.height_small) in
    record {
      some = s.height_some;
      few = mul-le-mul h s.width_small;
      all = s.pixels_most;
      rows = part_end (z.height - 1) z.height z.width (omega (arith, s.height_some));
      short = s.picture_most;
    }
