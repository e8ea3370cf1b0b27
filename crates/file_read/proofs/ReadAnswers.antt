-- The answers of reading a file.
use mathlib.Core.Path.{◌≡◌, refl, sym, ◌∙◌}
use mathlib.Core.Bool.{cond}
use mathlib.Core.List.{List, ◌++◌}
use Prim.Native.Nat.{ℕ, ◌*◌, ◌≤◌}
use native.Mathlib.Omega.{arith}
use borrow.Author.Tests.{ltb-false}
use lib.Dec.{ltb}
use lib.ListN.{length, replicate}
use Rattle.std.specs.Prelude.{Result, Err}
use Rattle.pictures.specs.declared.refusals.Refusal.{Refusal}
use Rattle.pictures.specs.Refusals.{Rule, number_of, given, refusal}
use Rattle.pictures.specs.Pictures.{picture_bytes, pixels}
use Rattle.pictures.proofs.Rules.{refusal-most, passed, number-some, kept_by}
use Rattle.seam_find.proofs.Worked.{worked_not}
use Rattle.text_theory.specs.declared.Head.{Head}
use Rattle.text_theory.specs.Files.{parse}
use Rattle.file_theory.specs.Rules.{part_rules, judged_rules, form_rules, read_rules}
use Rattle.file_theory.specs.Shows.{head_in}
use Rattle.file_read.specs.Reading.{ReadGiven}
use Rattle.file_read.specs.Inner.Opening.{Open}
use Rattle.file_read.specs.Inner.Checking.{MapJudged}
use Rattle.file_rules.specs.Spaces.{space_rules, read_space_rules}
use Rattle.file_rules.proofs.Ranges.{read_own_lem}
use Rattle.file_read.proofs.Parsed.{opened}
use Rattle.file_read.proofs.Answered.{early_number, early_work, own_number, judged-number, judged_work}

module _ (file picture map work : List ℕ) where
  -- 1 to 6.
  pub read_early : (why : Refusal) → number_of why ≡ refusal (form_rules part_rules (parse file)) → ReadGiven file picture map work (Err why) picture map work
  read_early why e = record {
    number = early_number file why e (λ p. space_rules p.head.size (length picture) (length map) (length work) ++ judged_rules p);
    head = kept_by why (head_in (parse file)) _;
    picture_given = kept_by why _ picture;
    map_given = kept_by why _ map;
    work_left = early_work file why e (replicate (length work) 0) work;
  }

  module _ (h : Head) (o : Open file h) where
    abbrev own : Head → List Rule
    own x = space_rules x.size (length picture) (length map) (length work)

    -- 2 and 3 don't refuse what is opened, so 8 alone decides.
    read-own : refusal (read_space_rules h.size (length picture) (length map) (length work)) ≡ refusal (own h)
    read-own = read_own_lem h.size (length picture) (length map) (length work) (opened file h o).sides_served

    -- 8.
    pub read_short : (why : Refusal) → number_of why ≡ refusal (read_space_rules h.size (length picture) (length map) (length work)) → ReadGiven file picture map work (Err why) picture map work
    read_short why e =
        let number : number_of why ≡ refusal (own h) = e ∙ read-own in
        record {
          number = own_number file h o own (number_of why) number (number-some why);
          head = kept_by why (head_in (parse file)) _;
          picture_given = kept_by why _ picture;
          map_given = kept_by why _ map;
          work_left = sym (worked_not (number_of why) (replicate (length work) 0) work (number-some why) (omega (arith, number, refusal-most 8 (own h) refl)));
        }

    module _ (served : 0 ≡ refusal (read_space_rules h.size (length picture) (length map) (length work))) where
      none : refusal (own h) ≡ 0
      none = sym (served ∙ read-own)

      pub map_room : pixels h.size ≤ length map
      map_room =
          let last = cond {A = ℕ} (ltb (length work) (32 * pixels h.size)) 8 0 in
          let a = passed (ltb (length picture) (picture_bytes h.size)) 7 (cond {A = ℕ} (ltb (length map) (pixels h.size)) 8 last) none in
          ltb-false _ _ (passed (ltb (length map) (pixels h.size)) 7 last a.1).0

      same_number : {v : Result (Unit {0}) Refusal} {work' : List ℕ} → MapJudged file work v work' → given v ≡ refusal (read_rules file (length picture) (length map) (length work))
      same_number j = j.number ∙ judged-number file h o own refl none

      -- 9 to 11.
      pub read-refused : (why : Refusal) {work' : List ℕ} → MapJudged file work (Err why) work' → ReadGiven file picture map work (Err why) picture map work'
      read-refused why {work'} j = record {
        number = same_number j;
        head = kept_by why (head_in (parse file)) _;
        picture_given = kept_by why _ picture;
        map_given = kept_by why _ map;
        work_left = judged_work file work (Err why) work' j;
      }
