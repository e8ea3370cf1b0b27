-- The samples of the mean of two pixels: proved once for any number of channels.
use mathlib.Core.Path.{◌≡◌, sym, ap₂, ◌∙◌}
use mathlib.Core.List.{List}
use Prim.Native.Nat.{ℕ}
use lib.ListN.{length, get_or}
use Rattle.grids.specs.Table.{table}
use Rattle.grids.proofs.Tables.{length-table, table_at, table_same, table-all}
use Rattle.map_theory.specs.Widths.{middle, average}
use Rattle.map_show.specs.Inner.Pixels.{MeansNeeded}
use Rattle.map_show.proofs.Zips.{length_zip_with, zip_with_table}

-- The mean of two pixels has as many samples as they.
pub length-average : (n : ℕ) (p q : List ℕ) → length p ≡ n → length q ≡ n → length (average p q) ≡ n
unfolding average
length-average n p q e f = length_zip_with middle n p q e f

average-table : (f g : ℕ → ℕ) (n : ℕ) → average (table f n) (table g n) ≡ table (λ k. middle (f k) (g k)) n
unfolding average
average-table f g n =
    zip_with_table middle n (table f n) (table g n) 0 0 0 (length-table f n) (length-table g n)
    ∙ table_same (λ k. middle (get_or (table f n) k 0) (get_or (table g n) k 0)) (λ k. middle (f k) (g k)) n
    (λ k l. ap₂ middle (table_at f n k 0 l) (table_at g n k 0 l))

-- Sample i of the mean of two pixels; as many as there are make the mean.
abbrev pub mean_at : List ℕ → List ℕ → ℕ → ℕ
mean_at a b i = middle (get_or a i 0) (get_or b i 0)

pub means-all : (a b out : List ℕ) → MeansNeeded a b out → table (mean_at a b) (length out) ≡ average a b
means-all a b out needed =
    sym (average-table (λ i. get_or a i 0) (λ i. get_or b i 0) (length out))
    ∙ ap₂ average (rw (sym needed.first) (table-all a 0)) (rw (sym needed.second) (table-all b 0))
