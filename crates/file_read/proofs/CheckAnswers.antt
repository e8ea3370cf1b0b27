-- The answers of checking a file.
use mathlib.Core.Path.{◌≡◌, refl, sym, ◌∙◌}
use mathlib.Core.List.{List, [], ◌∷◌}
use Prim.Native.Nat.{ℕ}
use native.Mathlib.Omega.{arith}
use lib.ListN.{length, replicate}
use Rattle.std.specs.Prelude.{Err}
use Rattle.pictures.specs.declared.refusals.Refusal.{Refusal}
use Rattle.pictures.specs.Refusals.{Rule, number_of, refusal}
use Rattle.pictures.specs.Pictures.{side_rules}
use Rattle.pictures.proofs.Rules.{served-first, refusal-most, number-some, kept_by}
use Rattle.seam_find.proofs.Worked.{worked_not}
use Rattle.text_theory.specs.declared.Head.{Head}
use Rattle.text_theory.specs.Files.{parse}
use Rattle.file_theory.specs.Rules.{part_rules, judged_rules, form_rules, work_rule}
use Rattle.file_theory.specs.Shows.{head_in}
use Rattle.file_rules.specs.Spaces.{work_rules}
use Rattle.file_read.specs.Reading.{CheckGiven}
use Rattle.file_read.specs.Inner.Opening.{Open}
use Rattle.file_read.specs.Inner.Checking.{MapJudged}
use Rattle.file_read.proofs.Parsed.{opened}
use Rattle.file_read.proofs.Answered.{early_number, early_work, own_number, judged-number, judged_work}

module _ (file work : List ℕ) where
  -- 1 to 6.
  pub check_early : (why : Refusal) → number_of why ≡ refusal (form_rules part_rules (parse file)) → CheckGiven file work (Err why) work
  check_early why e = record {
    number = early_number file why e (λ p. work_rule p.head.size (length work) ∷ judged_rules p);
    head = kept_by why (head_in (parse file)) _;
    work_left = early_work file why e (replicate (length work) 0) work;
  }

  module _ (h : Head) (o : Open file h) where
    abbrev own : Head → List Rule
    own x = work_rule x.size (length work) ∷ []

    -- 2 and 3 don't refuse what is opened, so 8 alone decides.
    work-own : refusal (work_rules h.size (length work)) ≡ refusal (own h)
    work-own = served-first (side_rules h.size) (own h) refl (opened file h o).sides_served

    -- 8.
    pub check-short : (why : Refusal) → number_of why ≡ refusal (work_rules h.size (length work)) → CheckGiven file work (Err why) work
    check-short why e =
        let number : number_of why ≡ refusal (own h) = e ∙ work-own in
        record {
          number = own_number file h o own (number_of why) number (number-some why);
          head = kept_by why (head_in (parse file)) _;
          work_left = sym (worked_not (number_of why) (replicate (length work) 0) work (number-some why) (omega (arith, number, refusal-most 8 (own h) refl)));
        }

    -- 9 to 11.
    pub check-refused : 0 ≡ refusal (work_rules h.size (length work)) → (why : Refusal) {work' : List ℕ} → MapJudged file work (Err why) work' → CheckGiven file work (Err why) work'
    check-refused served why {work'} j = record {
      number = j.number ∙ judged-number file h o own refl (sym (served ∙ work-own));
      head = kept_by why (head_in (parse file)) _;
      work_left = judged_work file work (Err why) work' j;
    }
