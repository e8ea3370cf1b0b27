-- Two lists of one length, element by element.
use mathlib.Core.Path.{◌≡◌, sym, ap, ◌∙◌}
use mathlib.Core.List.{List, [], ◌∷◌, zip_with}
use Prim.Native.Nat.{ℕ, zero, suc, ◌<◌}
use native.Mathlib.Omega.{arith}
use lib.ListN.{length, get_or}
use lib.Seq.{ext_get_or}
use Rattle.grids.specs.Table.{table}
use Rattle.grids.proofs.Shapes.{zip_with_at}
use Rattle.grids.proofs.Tables.{length-table, table_at}

module _ {A B C : Type 0} (f : A → B → C) where
  pub length_zip_with : (n : ℕ) (xs : List A) (ys : List B) → length xs ≡ n → length ys ≡ n → length (zip_with f xs ys) ≡ n
  unfolding zip_with
  length_zip_with n [] ys e g = e
  length_zip_with n (x ∷ xs) [] e g = absurd (omega arith)
  length_zip_with zero (x ∷ xs) (y ∷ ys) e g = absurd (omega arith)
  length_zip_with (suc n) (x ∷ xs) (y ∷ ys) e g = ap suc (length_zip_with n xs ys (omega arith) (omega arith))

  -- As a table.
  pub zip_with_table : (n : ℕ) (xs : List A) (ys : List B) (d : A) (o : B) (z : C) → length xs ≡ n → length ys ≡ n → zip_with f xs ys ≡ table (λ i. f (get_or xs i d) (get_or ys i o)) n
  zip_with_table n xs ys d o z e g =
      let h : ℕ → C = λ i. f (get_or xs i d) (get_or ys i o) in
      let long : length (zip_with f xs ys) ≡ n = length_zip_with n xs ys e g in
      ext_get_or z (zip_with f xs ys) (table h n) (long ∙ sym (length-table h n))
      (λ i l.
      let below : i < n = rw long at l in
      zip_with_at f xs ys i d o z (omega arith) (omega arith) ∙ sym (table_at h n i z below))
