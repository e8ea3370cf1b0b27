-- `seam_bounds::moves::has_outside` meets its contract: `outside` is whether any column passes the test of the closure.
use mathlib.Core.Path.{◌≡◌, refl, ap, ◌∙◌}
use mathlib.Core.Bool.{◌||◌}
use mathlib.Core.List.{List, [], ◌∷◌}
use Prim.Native.Nat.{ℕ}
use borrow.Author.Rules.{rules}
use borrow.Author.Tests.{tests}
use lib.Dec.{leb}
use Rattle.std.specs.List.{list_any}
use Rattle.std.proofs.lemmas.Iterator.{YieldsList-from_slice}
use Rattle.std.proofs.lemmas.Iterator.Search.{any_from_yields_List}
use Rattle.seam_bounds.specs.Moves.{outside}
use Rattle.seam_bounds.proofs.moves.has_outside.Goals as goal

any_outside : (w : ℕ) (s : List ℕ) → list_any (leb w) s ≡ outside w s
unfolding outside
any_outside w [] = refl
any_outside w (c ∷ s) = ap (leb w c ||◌) (any_outside w s)

pub returns : goal.returns
returns c =
    any_from_yields_List (leb c.args.width) _ _ _ c.any.ensures.ran (YieldsList-from_slice c.args.seam.now cc) (λ x b q k. search (rules, tests))
    ∙ any_outside c.args.width c.args.seam.now
