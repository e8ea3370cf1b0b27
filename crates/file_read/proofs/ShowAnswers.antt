-- The answers of showing a file at a width.
use mathlib.Core.Path.{◌≡◌, refl, sym, ap, ◌∙◌}
use mathlib.Core.Option.{none}
use mathlib.Core.List.{List, ◌++◌}
use Prim.Native.Nat.{ℕ}
use native.Mathlib.Omega.{arith}
use lib.ListN.{length, drop, replicate}
use Rattle.std.specs.Prelude.{Ok, Err}
use Rattle.std.proofs.lemmas.List.{length-replicate}
use Rattle.pictures.specs.declared.refusals.Refusal.{Refusal}
use Rattle.pictures.specs.Refusals.{Rule, number_of, refusal, worked}
use Rattle.pictures.proofs.Rules.{refusal-most, number-some, kept_by}
use Rattle.seam_find.proofs.Worked.{worked_not}
use Rattle.text_theory.specs.declared.Head.{Head}
use Rattle.text_theory.specs.Files.{parse}
use Rattle.file_theory.specs.Rules.{part_rules, judged_rules, form_rules, show_rules}
use Rattle.file_theory.specs.Shows.{sized, shows_in, shows, drawn_size, drawn_bytes}
use Rattle.file_read.specs.Reading.{ShowGiven}
use Rattle.file_read.specs.Inner.Opening.{Open}
use Rattle.file_read.specs.Inner.Checking.{judged_in, MapJudged}
use Rattle.file_read.specs.Inner.Widths.{DrawGiven}
use Rattle.file_rules.specs.Spaces.{offer_rules, wanted_rules}
use Rattle.file_rules.proofs.Ranges.{wanted_own}
use Rattle.file_read.proofs.Parsed.{opened}
use Rattle.file_read.proofs.Offered.{sound}
use Rattle.file_read.proofs.Answered.{early_number, early_work, own_number, judged-number, judged_work}

module _ (file : List ℕ) (v : ℕ) (out work : List ℕ) where
  -- A refusal, whatever it leaves in the work space.
  refused : (why : Refusal) (work' : List ℕ) → number_of why ≡ refusal (show_rules file v (length out) (length work))
      → work' ≡ worked (number_of why) (replicate (length work) 0) work → ShowGiven file v out work (Err why) out work'
  refused why work' e w = record {
    number = e;
    size = kept_by why (drawn_size (shows file v)) none;
    out_given = kept_by why (drawn_bytes (shows file v) ++ drop (length (drawn_bytes (shows file v))) out) out;
    work_left = w;
  }

  -- 1 to 6.
  pub show_early : (why : Refusal) → number_of why ≡ refusal (form_rules part_rules (parse file)) → ShowGiven file v out work (Err why) out work
  show_early why e =
      refused why work (early_number file why e (λ p. offer_rules p.head v (length out) (length work) ++ judged_rules p))
      (early_work file why e (replicate (length work) 0) work)

  module _ (h : Head) (o : Open file h) where
    abbrev own : Head → List Rule
    own x = offer_rules x v (length out) (length work)

    -- 2, 3 and 6 don't refuse what is opened, so 7 and 8 decide.
    show-own : refusal (wanted_rules h v (length out) (length work)) ≡ refusal (own h)
    show-own = wanted_own h v (length out) (length work) (sound (opened file h o))

    -- 7 and 8.
    pub show-short : (why : Refusal) → number_of why ≡ refusal (wanted_rules h v (length out) (length work)) → ShowGiven file v out work (Err why) out work
    show-short why e =
        let number : number_of why ≡ refusal (own h) = e ∙ show-own in
        refused why work (own_number file h o own (number_of why) number (number-some why))
        (sym (worked_not (number_of why) (replicate (length work) 0) work (number-some why) (omega (arith, number, refusal-most 8 (own h) refl))))

    module _ (served : 0 ≡ refusal (wanted_rules h v (length out) (length work))) where
      same_number : refusal (judged_in (parse file)) ≡ refusal (show_rules file v (length out) (length work))
      same_number = judged-number file h o own refl (sym (served ∙ show-own))

      -- 9 to 11.
      pub show-refused : (why : Refusal) {work' : List ℕ} → MapJudged file work (Err why) work' → ShowGiven file v out work (Err why) out work'
      show-refused why {work'} j = refused why work' (j.number ∙ same_number) (judged_work file work (Err why) work' j)

      pub show-served : {judged out' work' : List ℕ} → MapJudged file work (Ok tt) judged → DrawGiven file v out judged out' work'
          → ShowGiven file v out work (Ok (sized v h.size)) out' work'
      unfolding shows
      show-served j g = record {
        number = j.number ∙ same_number;
        size = sym (ap (λ q. drawn_size (shows_in q v)) (opened file h o).parsed);
        out_given = g.out_given;
        work_left = g.work_left ∙ ap (λ n. replicate n 0) (ap length j.work_left ∙ length-replicate (length work) 0);
      }
