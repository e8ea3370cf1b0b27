-- What object removal does next.
use Rattle.std.specs.Prelude.{Option, None, Some, Bool, not, cond, ℕ, eqb}
use Rattle.seam_rules.specs.declared.answers.Ending.{Ending}
use Rattle.seam_rules.specs.declared.answers.Ending.TheVariants.{Done, Narrow, Spent}
use Rattle.seam_rules.specs.declared.answers.Removal.{Removal}

-- An ending, with a count of seams cut.
abbrev pub ended : Ending → ℕ → Option Removal
ended ending count = Some (record { ending = ending; count = count })

-- "Before each cut, in this order: no pixel marked 2 gives "done"; width 1 gives "narrow"; b seams cut gives "spent"." None of
-- them: a seam is cut. That no seam is allowed, "blocked", shows in the cut itself.
abbrev pub next_step : Bool → ℕ → ℕ → ℕ → Option Removal
next_step marked width count budget =
    cond (not marked) (ended Done count)
    (cond (eqb width 1) (ended Narrow count)
    (cond (eqb count budget) (ended Spent count)
    None))
