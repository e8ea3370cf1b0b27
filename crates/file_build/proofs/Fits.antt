-- What a file leaves of a room, piece by piece.
use mathlib.Core.Path.{◌≡◌, sym, ap, ◌∙◌}
use Rattle.std.specs.Prelude.{None, Some, List, ◌++◌, ℕ, ◌+◌, ◌-◌, ◌*◌, ◌≤◌, ◌<◌, length, take, drop, replicate}
use Rattle.std.proofs.Common.{length-append}
use native.Mathlib.Omega.{arith}
use Rattle.grids.proofs.Rows.{part_end}
use Rattle.seam_theory.specs.Paths.{run}
use Rattle.pictures.specs.Refusals.{refusal}
use Rattle.pictures.specs.Pictures.{largest_side, size_rules, picture}
use Rattle.pictures.proofs.Limits.{sized_is}
use Rattle.text_theory.specs.declared.Head.{Head}
use Rattle.text_theory.specs.Files.{closed, row_lines, map_text, head_text}
use Rattle.text_theory.specs.Lengths.{total, spaced}
use Rattle.text_theory.proofs.Lengths.{head_length_lem}
use Rattle.text_lengths.specs.Rooms.{less}
use Rattle.text_lengths.proofs.Rooms.{less_none, less-short, less-room, less_then, less_none_then}
use Rattle.file_theory.proofs.Lengths.{file-length}
use Rattle.file_build.specs.Building.{file_in}
use Rattle.file_build.proofs.PictureRows.{of_size_lem, rows_long}
use Rattle.file_build.proofs.MapRows.{order_long}

-- Lines of n bytes, of which the first doesn't fit.
pub lines_none : (space n count : ℕ) → 0 < count → None ≡ less space n → None ≡ less space (count * n)
lines_none space n count some-lines e = sym (less_none space (count * n) (omega (arith, less-short space n e, part_end 0 count n some-lines)))

-- What was taken of a room.
pub taken : {room n left : ℕ} → Some left ≡ less room n → (left ≤ room) × (room - left ≡ n)
taken e = let r = less-room _ _ _ e in (omega arith, omega arith)

-- The head with the rows, then the map lines, each as long as the row's, then the last line.
module _ (b : List ℕ) (h : Head) (sized : refusal (size_rules h.size (length b)) ≡ 0) (deep : h.depth < h.size.width) (room : ℕ) where
  abbrev front : ℕ
  front = length (head_text h ++ row_lines h.size.kind (picture h.size b))

  abbrev line : ℕ
  line = total spaced (run 1 h.depth) + 2 * (h.size.width - h.depth) + 6

  all_is : length (file_in h b) ≡ length (head_text h ++ row_lines h.size.kind (picture h.size b)) + (h.size.height * (total spaced (run 1 h.depth) + 2 * (h.size.width - h.depth) + 6) + length closed)
  unfolding closed
  all_is = simp length-append (omega (arith, file-length h (picture h.size b) (of_size_lem h.size b sized) (omega (arith, deep)), head_length_lem h, rows_long h.size b sized))

  pub no_front : None ≡ less room (length (head_text h ++ row_lines h.size.kind (picture h.size b))) → None ≡ less room (length (file_in h b))
  no_front e = less_none_then room front (h.size.height * line + length closed) e ∙ ap (less room) (sym all_is)

  module _ (row : List ℕ) (ordered : row ≡ run 1 h.depth ++ drop h.depth (replicate largest_side 0)) (x : ℕ)
      (first : Some x ≡ less room (length (head_text h ++ row_lines h.size.kind (picture h.size b)))) where
    many : h.size.height * length (map_text (take h.size.width row)) ≡ h.size.height * (total spaced (run 1 h.depth) + 2 * (h.size.width - h.depth) + 6)
    many = ap (h.size.height *◌) (order_long h.depth h.size.width row (omega (arith, deep)) (sized_is h.size (length b) sized).width_most ordered)

    then : less room (length (file_in h b)) ≡ less x (h.size.height * length (map_text (take h.size.width row)) + length closed)
    then = ap (less room) all_is ∙ less_then room front (h.size.height * line + length closed) x first ∙ ap (λ n. less x (n + length closed)) (sym many)

    pub no_maps : None ≡ less x (h.size.height * length (map_text (take h.size.width row))) → None ≡ less room (length (file_in h b))
    no_maps e = less_none_then x (h.size.height * length (map_text (take h.size.width row))) (length closed) e ∙ sym then

    pub whole : (y : ℕ) → Some y ≡ less x (h.size.height * length (map_text (take h.size.width row))) → less room (length (file_in h b)) ≡ less y (length closed)
    whole y e = then ∙ less_then x (h.size.height * length (map_text (take h.size.width row))) (length closed) y e
