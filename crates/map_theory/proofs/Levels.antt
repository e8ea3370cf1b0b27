-- The laws of rows, of whole pictures and maps: one more seam cut first, and the map after the first seam.
use mathlib.Core.Path.{◌≡◌, refl, sym, ap₂, ◌∙◌}
use mathlib.Core.List.{List, [], ◌∷◌, map, zip_with}
use Prim.Native.Nat.{ℕ, suc, ◌-◌, ◌<◌}
use native.Mathlib.Omega.{arith}
use lib.ListN.{length-map}
use Rattle.grids.specs.Each.{Each, Grid, none, more}
use Rattle.grids.specs.Cut.{remove_at, cut}
use Rattle.grids.proofs.Cut.{length-remove_at}
use Rattle.map_theory.specs.Maps.{number_row, number, zeros}
use Rattle.map_theory.specs.Judged.{before, lower_row, lower, column_of, recorded, Numbering}
use Rattle.map_theory.proofs.Rows.{length-number_row, keep_all, keep_number_row, column-first_row, column-number_row, write, write-number_row, write-first_row}
use Rattle.map_theory.proofs.Lowered.{lower_zero_row, lower-number_row, number-lower_row, length-lower_row, column_inside}
use Rattle.map_theory.proofs.Numberings.{numbering_number, numbering_zeros, numbering_none, numbering_lower}

-- The columns of a seam through w columns and h rows.
abbrev pub Columns : ℕ → ℕ → List ℕ → Type 0
Columns w h s = Each (λ c. c < w) h s

-- The number v written in each row over the s-th zero of the row, s being the seam's column.
unfoldable pub write_all : ℕ → List ℕ → List (List ℕ) → List (List ℕ)
write_all v s m = zip_with (write v) s m

-- Laws with no condition on sizes.
pub before-number : {A : Type 0} (t : ℕ) (s : List ℕ) (p : List (List A)) (m : List (List ℕ)) → before (suc (suc t)) p (number s m) ≡ before (suc t) (cut s p) m
unfolding before number cut zip_with
before-number t [] [] m = refl
before-number t [] (x ∷ p) m = refl
before-number t (c ∷ s) [] [] = refl
before-number t (c ∷ s) [] (y ∷ m) = refl
before-number t (c ∷ s) (x ∷ p) [] = refl
before-number t (c ∷ s) (x ∷ p) (y ∷ m) = ap₂ ◌∷◌ (keep_number_row t c x y) (before-number t s p m)

pub write-number : (t : ℕ) (s r : List ℕ) (m : List (List ℕ)) → write_all (suc (suc t)) r (number s m) ≡ number s (write_all (suc t) r m)
unfolding write_all number zip_with
write-number t [] [] m = refl
write-number t [] (d ∷ r) m = refl
write-number t (c ∷ s) [] [] = refl
write-number t (c ∷ s) [] (y ∷ m) = refl
write-number t (c ∷ s) (d ∷ r) [] = refl
write-number t (c ∷ s) (d ∷ r) (y ∷ m) = ap₂ ◌∷◌ (write-number_row t d c y) (write-number t s r m)

pub lower_zero : (m : List (List ℕ)) → lower 0 m ≡ m
lower_zero [] = refl
lower_zero (y ∷ m) = ap₂ ◌∷◌ (lower_zero_row y) (lower_zero m)

-- Sizes.
pub grid-cut : {A : Type 0} {w h : ℕ} {s : List ℕ} {p : List (List A)} → Columns w h s → Grid w h p → Grid (w - 1) h (cut s p)
unfolding cut zip_with
grid-cut none none = none
grid-cut (more {x = c} l s) (more {x = x} e g) = more {x = remove_at c x} (omega (arith, length-remove_at c x (omega arith))) (grid-cut s g)

pub grid-number : {w h : ℕ} {s : List ℕ} {m : List (List ℕ)} → Columns w h s → Grid (w - 1) h m → Grid w h (number s m)
unfolding number zip_with
grid-number none none = none
grid-number (more {x = c} l s) (more {x = y} e g) = more {x = number_row c y} (omega (arith, length-number_row c y)) (grid-number s g)

pub grid-zeros : {A : Type 0} {w h : ℕ} {p : List (List A)} → Grid w h p → Grid w h (zeros p)
grid-zeros none = none
grid-zeros (more {x = x} e g) = more {x = map (λ a. 0) x} (length-map {B = ℕ} x (λ a. 0) ∙ e) (grid-zeros g)

pub grid-lower : {k w h : ℕ} {m : List (List ℕ)} → Grid w h m → Each (Numbering (suc k)) h m → Grid (w - 1) h (lower 1 m)
grid-lower none none = none
grid-lower (more {x = y} e g) (more n u) = more {x = lower_row 1 y} (omega (arith, length-lower_row y (n.once 1 (omega arith) (omega arith)))) (grid-lower g u)

-- Before the first seam all is left.
pub before-all : {A : Type 0} {w h : ℕ} {p : List (List A)} {m : List (List ℕ)} → Grid w h p → Grid w h m → before 1 p m ≡ p
unfolding before zip_with
before-all none none = refl
before-all (more {x = x} e g) (more {x = y} f q) = ap₂ ◌∷◌ (keep_all x y (e ∙ sym f)) (before-all g q)

-- The recorded seams where one more is cut first, and the map after it.
module _ {w : ℕ} where
  pub recorded-first : {h : ℕ} {s : List ℕ} {m : List (List ℕ)} → Columns w h s → Grid (w - 1) h m → recorded 1 (number s m) ≡ s
  unfolding number zip_with
  recorded-first none none = refl
  recorded-first (more {x = c} l s) (more {x = y} e g) = ap₂ ◌∷◌ (column-first_row c y (omega arith)) (recorded-first s g)

  pub recorded-number : {h : ℕ} {s : List ℕ} {m : List (List ℕ)} (t : ℕ) → Columns w h s → Grid (w - 1) h m → recorded (suc (suc t)) (number s m) ≡ recorded (suc t) m
  unfolding number zip_with
  recorded-number t none none = refl
  recorded-number t (more {x = c} l s) (more {x = y} e g) = ap₂ ◌∷◌ (column-number_row t c y) (recorded-number t s g)

  pub lower-number : {h : ℕ} {s : List ℕ} {m : List (List ℕ)} (t : ℕ) → Columns w h s → Grid (w - 1) h m → lower (suc t) (number s m) ≡ lower t m
  unfolding number zip_with
  lower-number t none none = refl
  lower-number t (more {x = c} l s) (more {x = y} e g) = ap₂ ◌∷◌ (lower-number_row t c y) (lower-number t s g)

  pub write-first : {A : Type 0} {h : ℕ} {s : List ℕ} {p : List (List A)} → Columns w h s → Grid w h p → write_all 1 s (zeros p) ≡ number s (zeros (cut s p))
  unfolding write_all number cut zip_with
  write-first none none = refl
  write-first (more {x = c} l s) (more {x = x} e g) = ap₂ ◌∷◌ (write-first_row c x (omega arith)) (write-first s g)

-- Numberings.
pub numbered-number : {k w h : ℕ} {s : List ℕ} {m : List (List ℕ)} → Columns w h s → Each (Numbering k) h m → Each (Numbering (suc k)) h (number s m)
unfolding number zip_with
numbered-number none none = none
numbered-number {k} (more {x = c} l s) (more {x = y} n u) = more (numbering_number k c y n) (numbered-number s u)

pub numbered-zeros : {A : Type 0} {w h : ℕ} {p : List (List A)} → Grid w h p → Each (Numbering 0) h (zeros p)
numbered-zeros none = none
numbered-zeros (more {x = x} e g) = more (numbering_zeros x) (numbered-zeros g)

pub numbered-none : {A : Type 0} {w h : ℕ} {p : List (List A)} {m : List (List ℕ)} → Grid w h p → Grid w h m → Each (Numbering 0) h m → m ≡ zeros p
numbered-none none none none = refl
numbered-none (more {x = x} e g) (more {x = y} f q) (more n u) = ap₂ ◌∷◌ (numbering_none x y (e ∙ sym f) n) (numbered-none g q u)

pub numbered-lower : {k h : ℕ} {m : List (List ℕ)} → Each (Numbering (suc k)) h m → Each (Numbering k) h (lower 1 m)
numbered-lower none = none
numbered-lower {k} (more {x = y} n u) = more (numbering_lower k y n) (numbered-lower u)

-- A numbered map has a first seam, and is the map after it with this seam cut first.
pub recorded_inside : {k w h : ℕ} {m : List (List ℕ)} → Grid w h m → Each (Numbering (suc k)) h m → Columns w h (recorded 1 m)
recorded_inside none none = none
recorded_inside (more {x = y} e g) (more n u) = more {x = column_of 1 y} (omega (arith, column_inside y (n.once 1 (omega arith) (omega arith)))) (recorded_inside g u)

pub number-lower : {k h : ℕ} {m : List (List ℕ)} → Each (Numbering (suc k)) h m → number (recorded 1 m) (lower 1 m) ≡ m
unfolding number zip_with
number-lower none = refl
number-lower (more {x = y} n u) = ap₂ ◌∷◌ (number-lower_row y (n.once 1 (omega arith) (omega arith))) (number-lower u)
