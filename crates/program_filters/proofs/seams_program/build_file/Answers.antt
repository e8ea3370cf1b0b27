-- `program_filters::seams_program::build_file` meets its contract: building refuses nothing of a picture that is held.
use Rattle.std.proofs.Common.{ℕ, ◌<◌, get_or, refl, sym, arith}
use Rattle.program_filters.proofs.FileAnswers.{all-bytes, file-answered}
use Rattle.program_filters.proofs.seams_program.build_file.Goals as goal

pub returns : goal.returns
returns c =
    let a = c.args in
    let byte : (i : ℕ) → get_or c.args.samples.now i 0 < 256 = λ i. grind arith in
    file-answered a.size a.samples.now (sym c.in_ok-judge_held.ensures) (all-bytes a.samples.now byte) a.out.now _ c.requires refl
    (rw c.usual_method.ensures at c.build.ensures)
