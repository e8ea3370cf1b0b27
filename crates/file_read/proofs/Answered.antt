-- What an operation on a file answers, from what opening it says, what 8 says of the spaces, and what judging its map says.
use mathlib.Core.Path.{◌≡◌, refl, sym, ap, ◌∙◌}
use mathlib.Core.Bool.{true}
use mathlib.Core.Option.{Option, none, some}
use mathlib.Core.List.{List, ◌++◌}
use Prim.Native.Nat.{ℕ, ◌≤◌, ◌<◌}
use native.Mathlib.Omega.{arith}
use lib.ListN.{length, replicate}
use Rattle.pictures.specs.declared.refusals.Refusal.{Refusal}
use Rattle.std.specs.Prelude.{Result}
use Rattle.pictures.specs.Refusals.{Rule, number_of, given, refusal, worked}
use Rattle.pictures.proofs.Rules.{positive, served-first, refused-first, refusal-most, number-some}
use Rattle.seam_find.proofs.Worked.{worked_not}
use Rattle.map_check.proofs.Answers.{worked-judged}
use Rattle.text_theory.specs.declared.Head.{Head}
use Rattle.text_theory.specs.Files.{Parts, parse}
use Rattle.file_theory.specs.Rules.{part_rules, judged_rules, form_rules}
use Rattle.file_read.specs.Inner.Opening.{Open}
use Rattle.file_read.specs.Inner.Checking.{judged_in, MapJudged}
use Rattle.file_read.proofs.Parsed.{parts_with, opened}

-- What 1 to 6 refuse is refused so, whatever other rules follow.
form_refused : (more : Parts → List Rule) (o : Option Parts) (n : ℕ) → n ≡ refusal (form_rules part_rules o) → 0 < n → n ≡ refusal (form_rules (λ p. part_rules p ++ more p) o)
form_refused more none n e l = e
form_refused more (some p) n e l = e ∙ sym (refused-first (part_rules p) (more p) (rw e at l))

form_most : (o : Option Parts) → refusal (form_rules part_rules o) ≤ 6
form_most none = omega arith
form_most (some p) = refusal-most 6 (part_rules p) refl

-- A file that opening refuses: its number, and everything lent left as it was.
module _ (file : List ℕ) (why : Refusal) (e : number_of why ≡ refusal (form_rules part_rules (parse file))) where
  pub early_number : (more : Parts → List Rule) → number_of why ≡ refusal (form_rules (λ p. part_rules p ++ more p) (parse file))
  early_number more = form_refused more (parse file) (number_of why) e (number-some why)

  pub early_work : {A : Type 0} (x y : A) → y ≡ worked (number_of why) x y
  early_work x y = sym (worked_not (number_of why) x y (number-some why) (omega (arith, e, form_most (parse file))))

-- Then the operation's own rules decide, and after them the map.
abbrev pub file_rules : (Head → List Rule) → List ℕ → List Rule
file_rules own file = form_rules (λ p. part_rules p ++ (own p.head ++ judged_rules p)) (parse file)

module _ (file : List ℕ) (h : Head) (o : Open file h) (own : Head → List Rule) where
  own_first : refusal (file_rules own file) ≡ refusal (own h ++ judged_in (parse file))
  own_first =
      let k = opened file h o in
      let p : Parts = parts_with h (parse file) in
      ap (λ q. refusal (form_rules (λ x. part_rules x ++ (own x.head ++ judged_rules x)) q)) k.parsed
      ∙ served-first (part_rules p) (own h ++ judged_rules p) refl k.served ∙ sym (ap (λ q. refusal (own h ++ judged_in q)) k.parsed)

  pub own_number : (n : ℕ) → n ≡ refusal (own h) → 0 < n → n ≡ refusal (file_rules own file)
  own_number n e l = e ∙ sym (own_first ∙ refused-first (own h) (judged_in (parse file)) (rw e at l))

  pub judged-number : positive (own h) ≡ true → refusal (own h) ≡ 0 → refusal (judged_in (parse file)) ≡ refusal (file_rules own file)
  judged-number t e = sym (own_first ∙ served-first (own h) (judged_in (parse file)) t e)

-- Judging a map gives 0 or 9 and more, so the work space is 0 afterwards.
worked-map : {A : Type 0} (o : Option Parts) (x y : A) → worked (refusal (judged_in o)) x y ≡ x
worked-map none x y = refl
worked-map (some p) x y = worked-judged p.head.size p.head.method p.head.depth p.rows p.maps x y

pub judged_work : (file work : List ℕ) (v : Result (Unit {0}) Refusal) (work' : List ℕ) → MapJudged file work v work' → work' ≡ worked (given v) (replicate (length work) 0) work
judged_work file work v work' j =
    j.work_left ∙ sym (ap (λ n. worked n (replicate (length work) 0) work) j.number ∙ worked-map (parse file) (replicate (length work) 0) work)
