-- "Object removal": how it ends, after how many cuts, and what it leaves.
use Rattle.std.specs.Prelude.{Bool, false, not, cond, ◌||◌, List, [], ◌∷◌, ℕ, zero, suc, ◌-◌, eqb}
use Rattle.grids.specs.Rows.{flat}
use Rattle.grids.specs.Cut.{cut}
use Rattle.pictures.specs.Pictures.{Picture}
use Rattle.energy.specs.declared.methods.Method.{Method}
use Rattle.seam_rules.specs.declared.answers.Ending.{Ending}
use Rattle.seam_rules.specs.declared.answers.Ending.TheVariants.{Done, Narrow, Spent, Blocked}
use Rattle.seam_theory.specs.PictureSeams.{marked_up, marked_seam_of, is_none}

-- A picture and its marks, with their width and height, and the method that their seams are found by.
pub record MarkedPicture : Type 0 where
  pub method : Method
  pub width : ℕ
  pub height : ℕ
  pub picture : Picture
  pub marks : List (List ℕ)

-- Whether some mark is 2, "to be removed".
unfoldable pub some_two : List ℕ → Bool
some_two [] = false
some_two (m ∷ ms) = eqb m 2 || some_two ms

abbrev pub to_remove : MarkedPicture → Bool
to_remove s = some_two (flat s.marks)

-- Whether no seam is allowed.
abbrev pub no_seam : MarkedPicture → Bool
no_seam s = is_none (marked_up s.method s.width s.height s.picture s.marks)

-- The vertical seam found with marks, cut out of the picture; "marks are cut alike".
abbrev pub seam_in : MarkedPicture → List ℕ
seam_in s = marked_seam_of s.method s.width s.height s.picture s.marks

unfoldable pub cut_once : MarkedPicture → MarkedPicture
cut_once s = record {
  method = s.method;
  width = s.width - 1;
  height = s.height;
  picture = cut (seam_in s) s.picture;
  marks = cut (seam_in s) s.marks;
}

-- The picture and marks after n such cuts.
unfoldable pub after_cuts : ℕ → MarkedPicture → MarkedPicture
after_cuts zero s = s
after_cuts (suc n) s = cut_once (after_cuts n s)

-- "Each ending carries the count of seams cut, and the buffers hold the picture and marks after that many."
pub record Removed : Type 0 where
  pub ending : Ending
  pub count : ℕ
  pub left : MarkedPicture

abbrev pub ends : Ending → ℕ → MarkedPicture → Removed
ends e n s = record { ending = e; count = n; left = s }

-- The steps, with n seams cut and as many still allowed as the first argument says. "Before each cut, in this order: no pixel
-- marked 2 gives "done"; width 1 gives "narrow"; b seams cut gives "spent"; no allowed seam gives "blocked"." So "spent"
-- stands where none is allowed any more. Otherwise the seam is cut, and so on.
unfoldable pub removal : ℕ → ℕ → MarkedPicture → Removed
removal zero n s =
    cond (not (to_remove s)) (ends Done n s)
    (cond (eqb s.width 1) (ends Narrow n s)
    (ends Spent n s))
removal (suc b) n s =
    cond (not (to_remove s)) (ends Done n s)
    (cond (eqb s.width 1) (ends Narrow n s)
    (cond (no_seam s) (ends Blocked n s)
    (removal b (suc n) (cut_once s))))
