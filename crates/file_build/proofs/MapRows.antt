-- The rows of a map: read from bytes, and how long their lines are.
use mathlib.Core.Path.{◌≡◌, refl, sym, ap, ◌∙◌}
use mathlib.Core.List.{List, [], ◌∷◌, ◌++◌}
use Prim.Native.Nat.{ℕ, zero, suc, ◌+◌, ◌-◌, ◌*◌, ◌/◌, ◌≤◌, ◌<◌}
use native.Mathlib.Omega.{arith}
use lib.ListN.{length, get_or, take, drop, replicate}
use lib.Seq.{take-append-add}
use Rattle.grids.specs.Table.{table}
use Rattle.grids.proofs.Tables.{length-table}
use Rattle.grids.proofs.Rows.{rows_of_at, length-rows_of}
use Rattle.seam_theory.specs.Paths.{run}
use Rattle.seam_theory.proofs.Members.{run-append}
use Rattle.text_theory.specs.Decimal.{digits}
use Rattle.std.specs.Simd.{first_chunks}
use Rattle.text_print.specs.Marks.{two_bytes_text}
use Rattle.text_theory.specs.Files.{blank, each, map_word, line_text, map_text}
use Rattle.text_theory.specs.Lengths.{total, spaced, map_length}
use Rattle.text_theory.proofs.Decimals.{digits_small}
use Rattle.text_theory.proofs.Lengths.{map_length_lem}
use Rattle.pictures.specs.Numbers.{numbers_in}
use Rattle.pictures.proofs.TwoBytes.{length-numbers, numbers-row}
use Rattle.std.proofs.lemmas.List.{drop-replicate}
use Rattle.file_build.specs.Inner.Lines.{map_in}
use Rattle.pictures.specs.Pictures.{largest_side}

pub maps-many : (w h : ℕ) (b : List ℕ) → length (map_in w h b) ≡ h
maps-many w h b = length-rows_of w h (numbers_in b)

-- The numbers of a row, put from their bytes.
each_pairs : (q : List ℕ) → each blank two_bytes_text (first_chunks 2 (length (numbers_in q)) q) ≡ each blank digits (numbers_in q)
unfolding each
each_pairs [] = refl
each_pairs (a ∷ []) = refl
each_pairs (a ∷ c ∷ r) = rw (each_pairs r)

line_pairs : (q : List ℕ) → line_text two_bytes_text (first_chunks 2 (length q / 2) q) ≡ line_text digits (numbers_in q)
unfolding line_text
line_pairs q = let e : length q / 2 ≡ length (numbers_in q) = sym (length-numbers q) in rw (e, each_pairs q)

-- The line of row r, from the part of the bytes where its numbers stand.
abbrev pub row_bytes : ℕ → ℕ → List ℕ → List ℕ
row_bytes w r b = take (r * (2 * w) + 2 * w - r * (2 * w)) (drop (r * (2 * w)) b)

pub map_line_lem : (w h : ℕ) (b : List ℕ) {r : ℕ} → r < h → {q : List (List ℕ)} → q ≡ first_chunks 2 (length (row_bytes w r b) / 2) (row_bytes w r b)
    → map_word ++ line_text two_bytes_text q ≡ map_word ++ line_text digits (get_or (map_in w h b) r [])
map_line_lem w h b {r} l e =
    let n : r * (2 * w) + 2 * w - r * (2 * w) ≡ 2 * w = omega arith in
    let is : numbers_in (row_bytes w r b) ≡ get_or (map_in w h b) r [] =
    ap (λ k. numbers_in (take k (drop (r * (2 * w)) b))) n ∙ numbers-row w r b ∙ sym (rows_of_at w h (numbers_in b) r l) in
    ap (λ t. map_word ++ t) (ap (line_text two_bytes_text) e ∙ line_pairs (row_bytes w r b) ∙ ap (line_text digits) is)

-- The numbers in their order.
pub run-table : (k : ℕ) → table (λ t. t + 1) k ≡ run 1 k
unfolding run
run-table zero = refl
run-table (suc k) =
    let e : k + 1 ≡ suc k = omega arith in
    let f : 1 + k ≡ k + 1 = omega arith in
    ap (◌++ ((k + 1) ∷ [])) (run-table k) ∙ sym (ap (run 1) (sym e) ∙ run-append 1 k 1 ∙ rw f)

total-append : (f : ℕ → ℕ) (xs ys : List ℕ) → total f (xs ++ ys) ≡ total f xs + total f ys
unfolding total
total-append f [] ys = omega arith
total-append f (x ∷ xs) ys = omega (arith, total-append f xs ys)

-- Zeros, each with the blank before it.
zeros-total : (n m : ℕ) → n ≤ m → total spaced (take n (replicate m 0)) ≡ 2 * n
unfolding total spaced
zeros-total zero m l = refl
zeros-total (suc n) zero l = absurd (omega arith)
zeros-total (suc n) (suc m) l = rw (digits_small 0 (omega arith)) (omega (arith, zeros-total n m (omega arith)))

-- The line of the numbers in their order and zeros after them.
pub order_long : (k w : ℕ) (row : List ℕ) → k ≤ w → w ≤ largest_side → row ≡ run 1 k ++ drop k (replicate largest_side 0)
    → length (map_text (take w row)) ≡ total spaced (run 1 k) + 2 * (w - k) + 6
unfolding map_length
order_long k w row l m e =
    let long : length (run 1 k) ≡ k = ap length (sym (run-table k)) ∙ length-table (λ t. t + 1) k in
    let split : w ≡ length (run 1 k) + (w - k) = omega (arith, long) in
    let zeros : List ℕ = replicate (largest_side - k) 0 in
    let back : ◌≡◌ {A = List ℕ} (drop k (replicate largest_side 0)) (replicate (largest_side - k) 0) = drop-replicate k largest_side 0 in
    let front : take w row ≡ run 1 k ++ take (w - k) (replicate (largest_side - k) 0) =
    ap (take w) (e ∙ ap (run 1 k ++◌) back) ∙ ap (λ i. take i (run 1 k ++ zeros)) split ∙ take-append-add (run 1 k) zeros (w - k) in
    map_length_lem (take w row)
    ∙ ap (λ r. total spaced r + 6) front
    ∙ omega (arith, total-append spaced (run 1 k) (take (w - k) (replicate (largest_side - k) 0)), zeros-total (w - k) (largest_side - k) (omega arith))
