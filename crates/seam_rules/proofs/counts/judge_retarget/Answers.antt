-- `seam_rules::counts::judge_retarget` meets its contract: what refuses the picture refuses the retarget by the same number.
use mathlib.Core.Path.{◌≡◌, sym, ◌∙◌}
use Rattle.std.proofs.Common.{rules, ◌<◌}
use Rattle.pictures.specs.Refusals.{given, number_of, refusal}
use Rattle.pictures.specs.Pictures.{size_rules}
use Rattle.pictures.proofs.Rules.{number-some, refused-first}
use Rattle.seam_rules.specs.Counts.{count_rules}
use Rattle.seam_rules.proofs.counts.judge_retarget.Goals as goal

pub returns-in_err-judge_picture : goal.returns-in_err-judge_picture
returns-in_err-judge_picture c =
    let a = c.args in
    let why = c.in_err-judge_picture.field-0.0 in
    let same : given c.from_residual.result ≡ number_of why = search rules in
    let is : number_of why ≡ refusal (size_rules a.size a.bytes) = c.in_err-judge_picture.ensures in
    let some : 0 < refusal (size_rules a.size a.bytes) = rw is at (number-some why) in
    same ∙ is ∙ sym (refused-first (size_rules a.size a.bytes) (count_rules a.size a.rows a.columns a.out a.work) some)
