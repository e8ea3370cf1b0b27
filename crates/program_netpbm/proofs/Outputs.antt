-- Answers and refusals at the front of the output.
use mathlib.Core.Path.{◌≡◌, sym, ap, ◌∙◌}
use mathlib.Core.Bool.{true, cond}
use mathlib.Core.Option.{Option, none, some}
use Rattle.std.specs.Prelude.{Result, Ok, Err}
use mathlib.Core.List.{List, [], ◌∷◌, ◌++◌}
use Prim.Native.Nat.{ℕ, zero, suc, ◌-◌, ◌≤◌, ◌<◌}
use native.Mathlib.Omega.{arith}
use lib.ListN.{length, take, drop, length-append}
use lib.Dec.{ltb}
use borrow.Author.Tests.{ltb-false, le-ltb}
use Rattle.grids.proofs.Parts.{last_part}
use Rattle.pictures.specs.declared.refusals.Refusal.{Refusal}
use Rattle.pictures.specs.declared.refusals.Refusal.TheVariants as refusals
use Rattle.pictures.specs.Refusals.{Rule, ◌when◌, number_of, given, refusal, served}
use Rattle.pictures.proofs.Rules.{passed, kept_by, refused_answer}
use Rattle.text_theory.specs.Readers.{Get}
use Rattle.text_read.specs.Answers.{Told}
use Rattle.program_theory.specs.Programs.{most_input, input_rule, refused_text, written}
use Rattle.program_netpbm.specs.Outputs.{Wrote, output_number, output_length, Finished}
use Rattle.program_netpbm.specs.Inner.{Answered}

-- A refusal has a number of at most three digits.
pub number-below : (why : Refusal) → number_of why < 1000
number-below refusals.Form = omega arith
number-below refusals.ZeroSide = omega arith
number-below refusals.TooLarge = omega arith
number-below refusals.Count = omega arith
number-below refusals.Mark = omega arith
number-below refusals.Range = omega arith
number-below refusals.NotOffered = omega arith
number-below refusals.Space = omega arith
number-below refusals.MapRow = omega arith
number-below refusals.BrokenSeam = omega arith
number-below refusals.OtherSeam = omega arith
number-below refusals.AllProtected = omega arith
number-below refusals.LastLine = omega arith
number-below refusals.Join = omega arith
number-below refusals.Rectangle = omega arith
number-below refusals.RectangleName = omega arith
number-below refusals.StaleSeam = omega arith
number-below refusals.Ranges = omega arith
number-below refusals.GridSide = omega arith
number-below refusals.NotBlocked = omega arith

-- An answer that is then finished is what the program writes.
module _ {rules : List Rule} {answer out : List ℕ} {o : Result ℕ Refusal} {mid : List ℕ} {n : ℕ} {out' : List ℕ} where
  pub wrote : Answered rules answer out o mid → Finished o mid n out' → Wrote (written (refusal rules) answer) out n out'
  wrote A F =
      let w = go (output_number o) A.length_is A.out_given F.length_is F.out_is in
      let long : n ≡ length (written (refusal rules) answer) = w.0 ∙ ap (λ i. length (written i answer)) A.number in
      let is : out' ≡ written (refusal rules) answer ++ drop (length (written (refusal rules) answer)) out =
      w.1 ∙ ap (λ i. written i answer ++ drop (length (written i answer)) out) A.number in
      let parts = ap length is ∙ length-append (written (refusal rules) answer) (drop (length (written (refusal rules) answer)) out) in
      record { length_is = long; out_is = is; fits = omega (arith, long, parts) }
    where
      go : (i : ℕ) → output_length o ≡ served i (length answer) 0 → mid ≡ served i (answer ++ drop (length answer) out) out
          → n ≡ served i (output_length o) (length (refused_text i)) → out' ≡ served i mid (refused_text i ++ drop (length (refused_text i)) mid)
          → (n ≡ length (written i answer)) × (out' ≡ written i answer ++ drop (length (written i answer)) out)
      go zero l m k u = (k ∙ l, u ∙ m)
      go (suc i) l m k u = (k, u ∙ ap (λ x. refused_text (suc i) ++ drop (length (refused_text (suc i))) x) m)

-- What is refused leaves the output as it was.
pub refused_so : (why : Refusal) {rules : List Rule} (answer out : List ℕ) → number_of why ≡ refusal rules → Answered rules answer out (Err why) out
refused_so why answer out e = record {
  number = e;
  length_is = kept_by why (length answer) 0;
  out_given = kept_by why (answer ++ drop (length answer) out) out;
}

-- A program that reads a value off the front of its input and then goes by that value and what is left.
module _ {A : Type 0} (get : Get A) (rules : Option (A × List ℕ) → List Rule) (answer : Option (A × List ℕ) → List ℕ) (input out : List ℕ) where
  pub too_long : (v : Result (Unit {0}) Refusal) (why : Refusal) → v ≡ Err why → given v ≡ refusal (input_rule input ∷ [])
      → Answered (input_rule input ∷ rules (get input)) (answer (get input)) out (Err why) out
  too_long v why is e = refused_so why (answer (get input)) out (sym (ap given is) ∙ refused_answer v why is (input_rule input ∷ []) (rules (get input)) e)

  module _ (v : Result (Unit {0}) Refusal) (is : v ≡ Ok tt) (given_is : given v ≡ refusal (input_rule input ∷ [])) where
    h : length input ≤ most_input
    h = ltb-false most_input (length input) (passed (ltb most_input (length input)) 7 0 (sym given_is ∙ ap given is)).0

    pub no_front : rules none ≡ 1 when true ∷ [] → Told get input 0 none → Answered (input_rule input ∷ rules (get input)) (answer (get input)) out (Err refusals.Form) out
    no_front e t = refused_so refusals.Form (answer (get input)) out (rw (le-ltb most_input (length input) h, t.same, e))

    pub by_front : {a : A} {at : ℕ} {o : Result ℕ Refusal} {out' : List ℕ} → Told get input 0 (some (a, at))
        → Answered (rules (some (a, take (length input - at) (drop at input)))) (answer (some (a, take (length input - at) (drop at input)))) out o out'
        → Answered (input_rule input ∷ rules (get input)) (answer (get input)) out o out'
    by_front {a} {at} {o} {out'} t taken =
        let g : Answered (rules (some (a, drop at input))) (answer (some (a, drop at input))) out o out' = rw (last_part at input) at taken in
        let e : get input ≡ some (a, drop at input) = t.same in
        let more : ℕ = refusal (rules (some (a, drop at input))) in
        rw e (record { number = g.number ∙ sym (ap (λ x. cond x 8 more) (le-ltb most_input (length input) h)); length_is = g.length_is; out_given = g.out_given })
