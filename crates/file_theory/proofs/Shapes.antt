-- Lists whose elements all have a property, with their number and without it.
use mathlib.Core.Path.{◌≡◌}
use mathlib.Core.Logic.{◌↔◌}
use mathlib.Core.Bool.{Bool, true, and-eq-true_iff}
use mathlib.Core.List.{List, [], ◌∷◌}
use Prim.Native.Nat.{ℕ}
use lib.Dec.{eqb}
use lib.ListN.{length}
use borrow.Author.Tests.{eqb-true, eq-eqb}
use Rattle.grids.specs.Each.{Each, Grid, none, more}
use Rattle.grids.proofs.Shapes.{each-length, each_any}
use Rattle.map_theory.specs.Judged.{every}
use Rattle.map_theory.proofs.Tests.{and_both, every-each, each-every}
use Rattle.text_theory.specs.Files.{All}
use Rattle.file_theory.specs.Rules.{filled}

module _ {A : Type 0} where
  pub all-all : {P Q : A → Type 0} → ((x : A) → P x → Q x) → (xs : List A) → All P xs → All Q xs
  all-all h [] a = tt
  all-all h (x ∷ xs) a = (h x a.0, all-all h xs a.1)

  pub all-each : {P Q : A → Type 0} {n : ℕ} {xs : List A} → ((x : A) → P x → Q x) → Each P n xs → All Q xs
  all-each h none = tt
  all-each h (more {x = x} p e) = (h x p, all-each h e)

  pub each_all : {P Q R : A → Type 0} {n : ℕ} {xs : List A} → ((x : A) → P x → Q x → R x) → Each P n xs → All Q xs → Each R n xs
  each_all h none a = none
  each_all h (more {x = x} p e) a = more (h x p a.0) (each_all h e a.1)

  -- The test of 4 finds the grids.
  pub filled_is : (w h : ℕ) (rows : List (List A)) → (filled w h rows ≡ true) ↔ Grid w h rows
  unfolding filled
  filled_is w h rows = (
    λ e.
        let b = (and-eq-true_iff (eqb (length rows) h) (every f rows)).0 e in
        every-each f (λ x q. eqb-true (length x) w q) (each_any h rows (eqb-true (length rows) h b.0)) b.1,
    λ g. and_both (eqb (length rows) h) (every f rows) (eq-eqb (length rows) h (each-length g)) (each-every f (λ x q. eq-eqb (length x) w q) g),
  )
    where
      f : List A → Bool
      f xs = eqb (length xs) w
