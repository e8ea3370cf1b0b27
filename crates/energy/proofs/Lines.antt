-- Laws of the energies of a row of bytes, in the terms of the functions that work them out.
use mathlib.Core.Path.{◌≡◌, sym, ap, ap₂, ◌∙◌}
use mathlib.Core.Bool.{true}
use mathlib.Core.List.{List, ◌++◌}
use Prim.Native.Nat.{ℕ, ◌+◌, ◌-◌, ◌*◌, ◌≤◌, ◌<◌}
use native.Mathlib.Nat.{add-sub_cancel_left, le_of_eq}
use native.Mathlib.Omega.{arith}
use borrow.Author.Tests.{le-ltb}
use lib.ListN.{length, take, drop, set, length-drop}
use lib.Seq.{length-take-le}
use Rattle.grids.specs.Table.{table}
use Rattle.grids.proofs.Tables.{table_more, table_same}
use Rattle.grids.proofs.Rows.{part_end}
use Rattle.pictures.specs.Limits.{most_picture}
use Rattle.pictures.specs.declared.sizes.Size.{Size}
use Rattle.pictures.specs.Pictures.{channels_of, row_bytes, picture}
use Rattle.energy.specs.declared.methods.Method.{Method}
use Rattle.energy.specs.Energy.{one_cost, energy, energies}
use Rattle.energy.specs.Inner.{LinesNeeded, energy_between, between, neighbour_of}
use Rattle.pictures.proofs.Limits.{Sized}
use Rattle.pictures.proofs.Buffers.{row_plain}
use Rattle.energy.proofs.Energy.{neighbour_inside, energy-between}

-- A row's pixels up to the last, for any number of channels.
module _ (ch : ℕ) (it lower space out : List ℕ) (width beside c : ℕ) (so_far : out ≡ table (between ch it lower width beside) c ++ drop c space) where
  -- One pixel more: its energy is stored.
  line-more : (e : ℕ) → c < length space → e ≡ between ch it lower width beside c
      → set out c e ≡ table (between ch it lower width beside) (c + 1) ++ drop (c + 1) space
  line-more e h is = ap₂ (λ xs x. set xs c x) so_far is ∙ table_more (between ch it lower width beside) space c 0 h

  -- The last pixel.
  pub line_last : (e : ℕ) → c + 1 ≡ width → width ≤ length space → e ≡ energy_between ch it lower c beside
      → set out c e ≡ table (between ch it lower width beside) width ++ drop width space
  unfolding between
  line_last e w h is =
      line-more e (omega arith) (rw (le-ltb (c + 1) width (le_of_eq (sym w))) is)
      ∙ ap (λ n. table (between ch it lower width beside) n ++ drop n space) w

-- The two parts of the buffer that are lent to the loop, in its terms: s bytes at r * s, and s bytes at n * s.
module _ (z : Size) (how : Method) (one : one_cost how.energy ≡ true) (b : List ℕ) (r s n : ℕ) (sure : Sized z (length b)) (inside : r < z.height) (is : s ≡ row_bytes z) (below : n ≡ neighbour_of how.energy r z.height) where
  pub record Ends : Type 0 where
    pub short : length b ≤ most_picture
    pub it : r * s + s ≤ length b
    pub lower : n * s + s ≤ length b

  pub ends : Ends
  ends =
      let long : length b ≡ z.height * s = sure.length_is ∙ ap (z.height *◌) (sym is) in
      let inside_too : n < z.height = rw below (neighbour_inside how.energy r z.height inside) in
      record {
        short = omega (arith, sure.length_is, sure.picture_most);
        it = omega (arith, part_end r z.height s inside);
        lower = omega (arith, part_end n z.height s inside_too);
      }

  part_length : (at : ℕ) → at + s ≤ length b → length (take (at + s - at) (drop at b)) ≡ z.width * channels_of z.kind
  part_length at h = rw (add-sub_cancel_left at s) (length-take-le s (drop at b) (omega (arith, length-drop at b)) ∙ is ∙ row_plain z)

  pub lines_needed : (beside : ℕ) (out : List ℕ) → beside ≡ neighbour_of how.energy (z.width - 1) z.width → z.width ≤ length out
      → LinesNeeded (channels_of z.kind) (take (r * s + s - r * s) (drop (r * s) b)) (take (n * s + s - n * s) (drop (n * s) b)) z.width beside out
  lines_needed beside out is-beside room = record {
    some = sure.width_some;
    inside = rw is-beside (neighbour_inside how.energy (z.width - 1) z.width (omega (arith, sure.width_some)));
    narrow = sure.width_small;
    it_is = part_length (r * s) ends.it;
    lower_is = part_length (n * s) ends.lower;
    room = room;
  }

  -- What the loop leaves is the row's energies.
  pub lines_are : (beside : ℕ) → beside ≡ neighbour_of how.energy (z.width - 1) z.width
      → table (between (channels_of z.kind) (take (r * s + s - r * s) (drop (r * s) b)) (take (n * s + s - n * s) (drop (n * s) b)) z.width beside) z.width ≡ energies how z.width z.height (picture z b) r
  lines_are beside is-beside =
      table_same _ (energy how z.width z.height (picture z b) r) z.width
      (λ c l. rw (add-sub_cancel_left (r * s) s, add-sub_cancel_left (n * s) s, below, is, is-beside) (sym (energy-between z how one b sure.length_is r c inside l)))
