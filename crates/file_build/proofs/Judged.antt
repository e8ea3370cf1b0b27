-- What size, range and work space say where none of them is refused.
use mathlib.Core.Path.{◌≡◌, refl, sym, ◌∙◌}
use mathlib.Core.Bool.{Bool, true, false, not, cond}
use mathlib.Core.List.{List, [], ◌∷◌}
use Prim.Native.Nat.{ℕ, ◌*◌}
use borrow.Author.Tests.{not-false, lt-ltb, le-ltb}
use lib.Dec.{ltb}
use lib.ListN.{length}
use Rattle.pictures.specs.Refusals.{Rule, ◌when◌, refusal}
use Rattle.pictures.specs.Pictures.{size_rules, pixels}
use Rattle.pictures.proofs.Rules.{served-first, served-both, passed}
use Rattle.map_theory.specs.Widths.{allowed}
use Rattle.std.specs.Prelude.{None, Some}
use Rattle.text_theory.specs.declared.Head.{Head}
use Rattle.text_lengths.specs.Rooms.{less}
use Rattle.text_lengths.proofs.Rooms.{less-room, less-short}
use Rattle.file_theory.specs.Rules.{work_rule, build_rules}
use Rattle.file_build.specs.Building.{file_in}
use Rattle.file_rules.specs.Spaces.{build_space_rules}

module _ (b : List ℕ) (h : Head) (out work : ℕ) where
  abbrev range : Bool
  range = allowed h.size.width h.depth h.growth

  abbrev short : Bool
  short = ltb work (32 * pixels h.size)

  -- Nothing is refused, but perhaps for the output space.
  pub record Ready : Type 0 where
    pub sized : refusal (size_rules h.size (length b)) ≡ 0
    pub ranged : allowed h.size.width h.depth h.growth ≡ true
    pub roomy : ltb work (32 * pixels h.size) ≡ false

  pub ready : 0 ≡ refusal (build_space_rules h (length b) work) → Ready
  ready e =
      let parts = served-both (size_rules h.size (length b)) (6 when not range ∷ work_rule h.size work ∷ []) refl (sym e) in
      let first = passed (not range) 5 (cond short 8 0) parts.1 in
      record { sized = parts.0; ranged = not-false range first.0; roomy = (passed short 7 0 first.1).0 }

  -- Then the output space decides.
  module _ (e : 0 ≡ refusal (build_space_rules h (length b) work)) where
    rest : List Rule
    rest = 6 when not range ∷ 8 when ltb out (length (file_in h b)) ∷ work_rule h.size work ∷ []

    pub too-short : None ≡ less out (length (file_in h b)) → 8 ≡ refusal (build_rules b h out work)
    unfolding rest
    too-short n =
        let r = ready e in
        sym (served-first (size_rules h.size (length b)) rest refl r.sized ∙ rw (r.ranged, lt-ltb out (length (file_in h b)) (less-short out (length (file_in h b)) n)))

    pub long-enough : {left : ℕ} → Some left ≡ less out (length (file_in h b)) → 0 ≡ refusal (build_rules b h out work)
    unfolding rest
    long-enough s =
        let r = ready e in
        sym (served-first (size_rules h.size (length b)) rest refl r.sized ∙ rw (r.ranged, le-ltb out (length (file_in h b)) (less-room out (length (file_in h b)) _ s).0, r.roomy))
