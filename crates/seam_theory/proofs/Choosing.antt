-- Paths, among them the seam of a picture, as a way of choosing seams.
use mathlib.Core.Path.{◌≡◌, refl, subst}
use mathlib.Core.Bool.{Bool, true}
use mathlib.Core.Option.{get_or}
use mathlib.Core.List.{List, [], ◌∷◌, reverse, reverse_aux}
use Prim.Native.Nat.{ℕ, zero, suc, ◌<◌}
use native.Mathlib.Omega.{arith}
use Rattle.grids.specs.Each.{Each, Grid, none}
use Rattle.grids.proofs.Bools.{both, and_both}
use Rattle.grids.proofs.Shapes.{each_member, each-reverse}
use Rattle.pictures.specs.Pictures.{Picture}
use Rattle.energy.specs.declared.methods.Method.{Method}
use Rattle.energy.specs.Methods.{wrap_of}
use Rattle.seam_theory.specs.Best.{first_best}
use Rattle.seam_theory.specs.Paths.{near, paths}
use Rattle.seam_theory.specs.Connected.{linked, IsPath}
use Rattle.seam_theory.proofs.Nearby.{near-both}
use Rattle.seam_theory.specs.PictureSeams.{seam_up, seam_of}
use Rattle.seam_theory.specs.Choices.{Choice, Chooses}
use Rattle.seam_theory.proofs.Characterised.{seam-some}

module _ (near : ℕ → ℕ → Bool) (symmetric : (c d : ℕ) → near c d ≡ true → near d c ≡ true) where
  -- The step from a list turned round to what stands after it.
  abbrev Meets : List ℕ → List ℕ → Type 0
  Meets [] r = Unit
  Meets (c ∷ s) [] = Unit
  Meets (c ∷ s) (d ∷ r) = near c d ≡ true

  meets_end : (s : List ℕ) → Meets s []
  meets_end [] = tt
  meets_end (c ∷ s) = tt

  linked-cons : (c : ℕ) (s r : List ℕ) → Meets (c ∷ s) r → linked near r ≡ true → linked near (c ∷ r) ≡ true
  linked-cons c s [] j e = refl
  linked-cons c s (d ∷ r) j e = and_both (near c d) (linked near (d ∷ r)) j e

  linked-turned : (s r : List ℕ) → linked near s ≡ true → linked near r ≡ true → Meets s r → linked near (reverse_aux s r) ≡ true
  linked-turned [] r p q j = q
  linked-turned (c ∷ []) r p q j = linked-cons c [] r j q
  linked-turned (c ∷ a ∷ s) r p q j =
      let b = both (near c a) (linked near (a ∷ s)) p in
      linked-turned (a ∷ s) (c ∷ r) b.1 (linked-cons c (a ∷ s) r j q) (symmetric c a b.0)

  -- Connected from the bottom row is connected from the top row, where a step may go both ways.
  pub linked-reverse : (s : List ℕ) → linked near s ≡ true → linked near (reverse s) ≡ true
  linked-reverse s e = linked-turned s [] e refl (meets_end s)

-- A way to choose a path from the bottom row upward is, read from the top row, a way to choose a seam.
pub paths_choose : {A : Type 0} (wrap : Bool) (up : Choice A)
    → ((w h : ℕ) (p : List (List A)) → 0 < w → 0 < h → Grid w h p → IsPath wrap w h (up w h p)) → ((w : ℕ) (p : List (List A)) → up w 0 p ≡ [])
    → Chooses (near wrap) (λ w h p. reverse (up w h p))
paths_choose {A} wrap up path low = record { inside = inside; joined = joined }
  where
    inside : (w h : ℕ) (p : List (List A)) → 0 < w → Grid w h p → Each (λ c. c < w) h (reverse (up w h p))
    inside w zero p l g = rw (low w p) none
    inside w (suc h) p l g =
        let k = path w (suc h) p l (omega arith) g in
        each-reverse (subst (λ n. Each (λ c. c < w) n (up w (suc h) p)) k.size (each_member (up w (suc h) p) k.within))

    joined : (w h : ℕ) (p : List (List A)) → 0 < w → Grid w h p → linked (near wrap w) (reverse (up w h p)) ≡ true
    joined w zero p l g = rw (low w p)
    joined w (suc h) p l g = linked-reverse (near wrap w) (near-both wrap w) (up w (suc h) p) (path w (suc h) p l (omega arith) g).connected

-- The seam of a picture is such a path.
seam-path : (how : Method) (w h : ℕ) (p : Picture) → 0 < w → 0 < h → Grid w h p → IsPath (wrap_of how) w h (get_or (seam_up how w h p) [])
seam-path how w h p k l g = let s = seam-some how w h p k l in rw s.1 s.2.path

pub seam_chooses : (how : Method) → Chooses (near (wrap_of how)) (seam_of how)
unfolding seam_of paths first_best
seam_chooses how = paths_choose (wrap_of how) (λ w h p. get_or (seam_up how w h p) []) (seam-path how) (λ w p. refl)
