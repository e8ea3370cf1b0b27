-- The loop over the rows of sums: its invariant, and that one row more keeps it.
use mathlib.Core.Path.{◌≡◌, refl, sym, ap, ◌∙◌}
use mathlib.Core.Bool.{false}
use mathlib.Core.List.{List, [], ◌∷◌}
use Prim.Native.Nat.{ℕ, ◌+◌, ◌-◌, ◌≤◌, ◌<◌, min}
use native.Mathlib.Omega.{arith}
use lib.ListN.{length, length-map, get_or, take, drop}
use lib.Seq.{take_at}
use Rattle.pictures.specs.declared.sizes.Size.{Size}
use Rattle.seam_theory.specs.Sums.{CostRows, fenced, sums_down}
use Rattle.seam_theory.proofs.Bounded.{length-sums}
use Rattle.seam_theory.proofs.Capped.{capped, capped_fenced}
use Rattle.seam_find.specs.Inner.Down.{DownNeeded, RowNeeded, RowGiven}
use Rattle.seam_find.proofs.Downs.{Downs, above-long, down-start, down_turn}

-- The loop over the rows. Before row i, which is not the first, the ways and the sums are those of the rows above it, and the
-- rows that are lent are as long as they were.
pub record BeforeRow (most fence from : ℕ) (z : Size) (costsIn : List ℕ → ℕ → CostRows) (start : List ℕ) (energies₀ steps₀ next₀ i : ℕ)
    (space above : List ℕ) (energies steps next : ℕ) : Type 0 where
  pub some : 0 < i
  pub within : i ≤ z.height
  pub downs : Downs most fence from z costsIn start i space above
  pub energies_kept : energies ≡ energies₀
  pub steps_kept : steps ≡ steps₀
  pub next_kept : next ≡ next₀

module _ {most fence from : ℕ} {z : Size} {costsIn : List ℕ → ℕ → CostRows} {start above₀ : List ℕ} {energies₀ steps₀ next₀ : ℕ}
    (needed : DownNeeded most fence from z costsIn start above₀ energies₀ steps₀ next₀) (some : 0 < z.height)
    (length-costs : (i : ℕ) → length (costsIn (take from start) i).up ≡ z.width) where
  pub before-first : BeforeRow most fence from z costsIn start energies₀ steps₀ next₀ 1 start above₀ energies₀ steps₀ next₀
  before-first = record {
    some = omega arith;
    within = some;
    downs = down-start most fence from z costsIn start length-costs needed.room above₀ needed.first;
    energies_kept = refl;
    steps_kept = refl;
    next_kept = refl;
  }

  module _ {i : ℕ} {space above : List ℕ} {energies steps next : ℕ}
      (holds : BeforeRow most fence from z costsIn start energies₀ steps₀ next₀ i space above energies steps next) where
    abbrev sums : List ℕ
    sums = capped most (sums_down false fence z.width (costsIn (take from start)) (i - 1))

    -- The sums above row i stand between their fences.
    fenced-in : above ≡ fenced false (min most fence) z.width (take z.width (drop 1 above))
    fenced-in =
        let real = sums_down false fence z.width (costsIn (take from start)) (i - 1) in
        let d = holds.downs.above-is ∙ capped_fenced most fence z.width real in
        let long = length-map real (min most) ∙ length-sums false fence z.width (costsIn (take from start)) (length-costs 0) (i - 1) in
        d ∙ ap (fenced false (min most fence) z.width) (sym (ap (λ x. take z.width (drop 1 x)) d ∙ take_at sums (min most fence ∷ []) z.width long))

    -- What row i takes.
    pub before-needed : i < z.height → ((k : ℕ) → k < z.width → get_or above (k + 1) 0 ≤ min most fence)
        → RowNeeded (min most fence) from z i space above energies steps next
    before-needed inside small = record {
      later = holds.some;
      inside = inside;
      room = rw holds.downs.long needed.room;
      long = above-long most fence from z costsIn start length-costs i space above holds.downs;
      fences = fenced-in;
      small = small;
      energies_room = holds.energies_kept ∙ needed.energies_room;
      steps_room = holds.steps_kept ∙ needed.steps_room;
      next_room = holds.next_kept ∙ needed.next_room;
    }

    -- What it leaves holds before the row after it.
    pub before-next : {space' above' : List ℕ} {energies' steps' next' : ℕ} → i < z.height → RowGiven most (min most fence) from z costsIn i space above space' above'
        → energies' ≡ energies → steps' ≡ steps → next' ≡ next
        → BeforeRow most fence from z costsIn start energies₀ steps₀ next₀ (i + 1) space' above' energies' steps' next'
    before-next {space' = space'} {above' = above'} inside given e c n = record {
      some = omega arith;
      within = omega (arith, inside);
      downs =
          down_turn most fence from z costsIn start length-costs needed.room i space above space' above'
          holds.some inside holds.downs given;
      energies_kept = e ∙ holds.energies_kept;
      steps_kept = c ∙ holds.steps_kept;
      next_kept = n ∙ holds.next_kept;
    }
