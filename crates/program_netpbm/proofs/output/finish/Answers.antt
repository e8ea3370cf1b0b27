-- There is room for every refusal, so its line is printed.
use native.Mathlib.Omega.{arith}
use Rattle.std.proofs.Common.{◌≡◌, ◌≤◌, List, ℕ, length, refl}
use Rattle.std.specs.Prelude.{Option, None, Some, IsSome}
use Rattle.text_print.specs.Prints.{Put}
use Rattle.pictures.specs.declared.refusals.Refusal.{Refusal}
use Rattle.pictures.specs.Refusals.{number_of}
use Rattle.text_print.proofs.Written.{never_short}
use Rattle.program_theory.specs.Programs.{refused_text}
use Rattle.program_theory.proofs.Lengths.{refused-most}
use Rattle.program_netpbm.specs.Outputs.{output_space}
use Rattle.program_netpbm.proofs.Outputs.{number-below}
use Rattle.program_netpbm.proofs.output.finish.Goals as goal

room : (why : Refusal) (out : List ℕ) → length out ≡ output_space → length (refused_text (number_of why)) ≤ length out
room why out e = omega (arith, refused-most (number_of why) (number-below why))

-- What has room is printed.
printed : (r : Option ℕ) {out bytes out' : List ℕ} → length bytes ≤ length out → Put out 0 bytes r out' → IsSome r
printed None h p = absurd (never_short (omega (arith, h)) p)
printed (Some n) h p = refl

pub unwrap-requires : goal.unwrap-requires
unwrap-requires c = printed c.print.result (room c.in-Err.why c.args.out.now c.told-out) c.print.ensures
