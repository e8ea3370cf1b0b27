-- The text is the file's, and there is room for it.
use Rattle.std.proofs.Common.{◌≤◌, List, ℕ, length, refl, arith}
use Rattle.std.specs.Prelude.{Option, None, Some, IsSome}
use Rattle.text_theory.specs.Files.{text}
use Rattle.text_print.specs.Prints.{Put}
use Rattle.text_print.proofs.Written.{never_short, put_front}
use Rattle.file_build.proofs.lines.print_file.Goals as goal

-- What has room is printed.
printed : (r : Option ℕ) {out bytes out' : List ℕ} → length bytes ≤ length out → Put out 0 bytes r out' → IsSome r
printed None h p = absurd (never_short (omega (arith, h)) p)
printed (Some n) h p = refl

pub unwrap-requires : goal.unwrap-requires
unfolding text
unwrap-requires c = printed c.print.result c.requires.room c.print.ensures

pub returns : goal.returns
unfolding text
returns c = let front = put_front c.requires.room (rw c.unwrap.ensures at c.print.ensures) in record { length_is = front.0; out_is = front.1 }
