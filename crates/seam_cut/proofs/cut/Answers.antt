-- `seam_cut::cut` meets its contract: what refuses finding the seam refuses the cut by the same number.
use mathlib.Core.Path.{◌≡◌, ap, ◌∙◌}
use Rattle.std.proofs.Common.{rules, length, Err}
use Rattle.pictures.specs.Refusals.{given}
use Rattle.pictures.proofs.Rules.{refused_answer}
use Rattle.seam_rules.specs.Cuts.{find_rules, last_rules}
use Rattle.seam_cut.proofs.cut.Goals as goal

pub returns-in_err-judge_find : goal.returns-in_err-judge_find
returns-in_err-judge_find c =
    let a = c.args in
    let why = c.in_err-judge_find.field-0.0 in
    let is : c.from_residual.result ≡ Err why = search rules in
    let first = find_rules a.axis a.size (length a.picture.now) (length a.seam.now) (length a.work.now) in
    record {
      number = refused_answer c.from_residual.result why is first (last_rules a.axis a.size) (ap given is ∙ c.in_err-judge_find.ensures);
      cost = search rules;
      picture_left = search rules;
      seam_given = search rules;
      work_left = search rules;
    }
