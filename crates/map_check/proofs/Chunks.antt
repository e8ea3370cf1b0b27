-- What a walk over the rows of a map in bytes gives.
use mathlib.Core.Path.{◌≡◌, refl, ap, ap₂, ◌∙◌}
use mathlib.Core.Bool.{Bool, ◌&&◌}
use mathlib.Core.List.{List, ◌∷◌, ◌++◌}
use Prim.Native.Nat.{ℕ, zero, suc, ◌+◌, ◌*◌, ◌/◌, ◌<◌}
use native.Mathlib.Nat.{mul-one}
use native.Mathlib.Numerals.{add-one}
use native.Mathlib.Omega.{arith}
use denote.Ref.{Bor}
use lib.ListN.{length, take, drop, length-append}
use lib.Seq.{take_at, drop_at}
use Rattle.std.specs.List.{list_all}
use Rattle.std.specs.Slice.Iter.{chunks_exact_rest, chunks_exact_size, chunks_exact_steps}
use Rattle.std.specs.declared.slice.ChunksExact.{ChunksExact}
use Rattle.std.specs.Prelude.{Some, None}
use Rattle.std.proofs.lemmas.Iterator.{YieldsList}
use Rattle.std.proofs.lemmas.Iterator.Splits.{YieldsList-from_shown_while}
use Rattle.std.proofs.Math.Nat.{add-mul-div_left, div-eq_of_lt}
use Rattle.grids.specs.Rows.{rows_of}
use Rattle.pictures.specs.Numbers.{numbers_in}
use Rattle.pictures.proofs.TwoBytes.{numbers-take, numbers-drop}
use Rattle.map_theory.specs.Judged.{every}

-- The chunks to come.
abbrev to_come : ChunksExact ℕ → List (List ℕ)
to_come s = rows_of (chunks_exact_size s) (length (chunks_exact_rest s) / chunks_exact_size s) (chunks_exact_rest s)

next-row : (size size' : ℕ) (rest more row : List ℕ) → 0 < size → size' ≡ size → rest ≡ row ++ more → length row ≡ size
    → rows_of size (length rest / size) rest ≡ row ∷ rows_of size' (length more / size') more
next-row size size' rest more row some same split long =
    let whole : length rest ≡ length more + size * 1 = omega (arith, ap length split, length-append row more, mul-one size) in
    let many : length rest / size ≡ suc (length more / size) = ap (◌/ size) whole ∙ add-mul-div_left (length more) 1 some ∙ add-one (length more / size) in
    let here : take size rest ≡ row = ap (take size) split ∙ take_at row more size long in
    let after : drop size rest ≡ more = ap (drop size) split ∙ drop_at row more size long in
    rw (many, same, here, after)

pub chunks-road : (s : ChunksExact ℕ) → 0 < chunks_exact_size s
    → YieldsList (chunks_exact_steps {A = ℕ}) (λ x. x.now) s (rows_of (chunks_exact_size s) (length (chunks_exact_rest s) / chunks_exact_size s) (chunks_exact_rest s))
chunks-road s some =
    YieldsList-from_shown_while (chunks_exact_steps {A = ℕ}) (λ x. x.now) to_come (λ t. 0 < chunks_exact_size t) none next s some
  where
    none : (s t : ChunksExact ℕ) → 0 < chunks_exact_size s → chunks_exact_steps s None t → length (to_come s) ≡ 0
    none s t p e =
        let z : length (chunks_exact_rest s) / chunks_exact_size s ≡ 0 = div-eq_of_lt e.1.0 in
        rw z

    next : (s : ChunksExact ℕ) (x : Bor (List ℕ)) (t : ChunksExact ℕ) → 0 < chunks_exact_size s → chunks_exact_steps s (Some x) t
        → (0 < chunks_exact_size t) × (to_come s ≡ x.now ∷ to_come t)
    next s x t p e = (rw e.0 p, next-row (chunks_exact_size s) (chunks_exact_size t) (chunks_exact_rest s) (chunks_exact_rest t) x.now p e.0 e.1.0 e.1.1)

-- A row in bytes passes where its numbers do.
pub all_rows : (f : List ℕ → Bool) (w n : ℕ) (b : List ℕ) → list_all (λ row. f (numbers_in row)) (rows_of (2 * w) n b) ≡ every f (rows_of w n (numbers_in b))
all_rows f w zero b = refl
all_rows f w (suc n) b =
    ap₂ ◌&&◌ (ap f (numbers-take w b)) (all_rows f w n (drop (2 * w) b) ∙ ap (λ r. every f (rows_of w n r)) (numbers-drop w b))
