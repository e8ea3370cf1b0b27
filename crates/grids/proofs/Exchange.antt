-- Laws of rows and columns exchanged.
use mathlib.Core.Path.{◌≡◌, refl, sym, ap, ap₂, ◌∙◌}
use mathlib.Core.List.{List, [], ◌∷◌, zip_with}
use Prim.Native.Nat.{ℕ, zero, suc, ◌<◌}
use native.Mathlib.Nat.{suc_inj, zero-lt-suc}
use native.Mathlib.Omega.{arith}
use lib.ListN.{length, get_or, replicate}
use lib.Seq.{ext_get_or}
use Rattle.grids.specs.Each.{Each, Grid, none, more}
use Rattle.grids.specs.Table.{table}
use Rattle.grids.specs.Exchange.{exchange}
use Rattle.grids.proofs.Shapes.{each-length, grid_any, grid_of}
use Rattle.grids.proofs.Tables.{length-table, table_at, each-table}

module _ {A : Type 0} where
  -- A column more in front.
  join : {P : A → Type 0} {n w : ℕ} {x : List A} {q : List (List A)} → Each P w x → Each (Each P n) w q → Each (Each P (suc n)) w (zip_with ◌∷◌ x q)
  unfolding zip_with
  join none none = none
  join (more a x) (more y q) = more (more a y) (join x q)

  blank : {P : A → Type 0} (w : ℕ) → Each (Each P 0) w (replicate w [])
  blank zero = none
  blank (suc w) = more none (blank w)

  -- The exchanged grid has the elements of the grid.
  pub exchange-each : {P : A → Type 0} {w n : ℕ} {p : List (List A)} → Each (Each P w) n p → Each (Each P n) w (exchange w p)
  unfolding exchange
  exchange-each {w} none = blank w
  exchange-each (more x g) = join x (exchange-each g)

  pub exchange-grid : {w n : ℕ} {p : List (List A)} → Grid w n p → Grid n w (exchange w p)
  exchange-grid g = grid_of (exchange-each (grid_any g))

  -- Element r of column c is element c of row r; past the edges there is nothing in either.
  first_at : (x : List A) (q : List (List A)) → length x ≡ length q → (c : ℕ) (d : A) → get_or (get_or (zip_with ◌∷◌ x q) c []) 0 d ≡ get_or x c d
  unfolding zip_with
  first_at [] [] e c d = refl
  first_at [] (y ∷ q) e c d = absurd (omega arith)
  first_at (a ∷ x) [] e c d = absurd (omega arith)
  first_at (a ∷ x) (y ∷ q) e zero d = refl
  first_at (a ∷ x) (y ∷ q) e (suc c) d = first_at x q (suc_inj e) c d

  later_at : (x : List A) (q : List (List A)) → length x ≡ length q → (c r : ℕ) (d : A) → get_or (get_or (zip_with ◌∷◌ x q) c []) (suc r) d ≡ get_or (get_or q c []) r d
  unfolding zip_with
  later_at [] [] e c r d = refl
  later_at [] (y ∷ q) e c r d = absurd (omega arith)
  later_at (a ∷ x) [] e c r d = absurd (omega arith)
  later_at (a ∷ x) (y ∷ q) e zero r d = refl
  later_at (a ∷ x) (y ∷ q) e (suc c) r d = later_at x q (suc_inj e) c r d

  blank_at : (w c r : ℕ) (d : A) → get_or (get_or (replicate w []) c []) r d ≡ d
  blank_at zero c r d = refl
  blank_at (suc w) zero r d = refl
  blank_at (suc w) (suc c) r d = blank_at w c r d

  pub exchange_at : {w n : ℕ} {p : List (List A)} → Grid w n p → (r c : ℕ) (d : A) → get_or (get_or (exchange w p) c []) r d ≡ get_or (get_or p r []) c d
  unfolding exchange
  exchange_at {w} none r c d = blank_at w c r d
  exchange_at {w} (more {x = x} {xs = p} e g) zero c d = first_at x (exchange w p) (e ∙ sym (each-length (exchange-grid g))) c d
  exchange_at {w} (more {x = x} {xs = p} e g) (suc r) c d =
      later_at x (exchange w p) (e ∙ sym (each-length (exchange-grid g))) c r d ∙ exchange_at g r c d

  -- Exchanged twice, a grid is as it was.
  exchange-join : (n : ℕ) (x : List A) (q : List (List A)) → length x ≡ length q → exchange (suc n) (zip_with ◌∷◌ x q) ≡ x ∷ exchange n q
  unfolding exchange zip_with
  exchange-join n [] [] e = refl
  exchange-join n [] (y ∷ q) e = absurd (omega arith)
  exchange-join n (a ∷ x) [] e = absurd (omega arith)
  exchange-join n (a ∷ x) (y ∷ q) e = rw (exchange-join n x q (suc_inj e))

  exchange-blank : (w : ℕ) → exchange {A = A} 0 (replicate w []) ≡ []
  unfolding exchange zip_with
  exchange-blank zero = refl
  exchange-blank (suc w) = refl

  pub exchange_twice : {w n : ℕ} {p : List (List A)} → Grid w n p → exchange n (exchange w p) ≡ p
  unfolding exchange
  exchange_twice {w} none = exchange-blank w
  exchange_twice {w} (more {n = n} {x = x} {xs = p} e g) =
      exchange-join n x (exchange w p) (e ∙ sym (each-length (exchange-grid g))) ∙ ap (x ∷◌) (exchange_twice g)

  -- Grids with the same elements are the same.
  pub grid-same : {w n : ℕ} {p q : List (List A)} (d : A) → Grid w n p → Grid w n q
      → ((r c : ℕ) → r < n → c < w → get_or (get_or p r []) c d ≡ get_or (get_or q r []) c d) → p ≡ q
  grid-same d none none h = refl
  grid-same {w} d (more {x = x} {xs = p} e g) (more {x = y} {xs = q} f k) h =
      ap₂ ◌∷◌ (ext_get_or d x y (e ∙ sym f) (λ c l. h 0 c (zero-lt-suc _) (omega arith)))
      (grid-same d g k (λ r c l m. h (suc r) c (omega arith) m))

  -- The table of tables, exchanged.
  pub exchange-table : (d : A) (f : ℕ → ℕ → A) (w n : ℕ) → exchange w (table (λ r. table (f r) w) n) ≡ table (λ c. table (λ r. f r c) n) w
  exchange-table d f w n = grid-same d (exchange-grid rows) columns at
    where
      rows : Grid w n (table (λ r. table (f r) w) n)
      rows = each-table (λ r. table (f r) w) n (λ r l. length-table (f r) w)

      columns : Grid n w (table (λ c. table (λ r. f r c) n) w)
      columns = each-table (λ c. table (λ r. f r c) n) w (λ c l. length-table (λ r. f r c) n)

      at : (c r : ℕ) → c < w → r < n → get_or (get_or (exchange w (table (λ r. table (f r) w) n)) c []) r d ≡ get_or (get_or (table (λ c. table (λ r. f r c) n) w) c []) r d
      at c r l m =
          exchange_at rows r c d
          ∙ ap (λ x. get_or x c d) (table_at (λ r. table (f r) w) n r [] m) ∙ table_at (f r) w c d l
          ∙ sym (ap (λ x. get_or x r d) (table_at (λ c. table (λ r. f r c) n) w c [] l) ∙ table_at (λ r. f r c) n r d m)
