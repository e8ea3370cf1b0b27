-- The number of what is read of a header: 1 just where the header breaks its form.
use mathlib.Core.Path.{◌≡◌, refl, sym}
use mathlib.Core.Option.{none, some}
use Rattle.std.specs.Prelude as code
use Rattle.std.specs.Prelude.{List, ℕ}
use Rattle.pictures.specs.declared.sizes.Kind.{Kind}
use Rattle.pictures.specs.declared.sizes.Size.{Size}
use Rattle.pictures.specs.Refusals.{refusal, SmallestGiven}
use Rattle.pictures.proofs.Rules.{given-smallest}
use Rattle.text_theory.specs.Readers.{answered}
use Rattle.text_read.specs.declared.cursor.Cursor.{Cursor}
use Rattle.text_read.specs.Answers.{Told, read}
use Rattle.text_read.specs.Numbers.{reader_rules}
use Rattle.text_read.proofs.Numbers.{told_number}
use Rattle.program_theory.specs.Netpbm.{kind_by, header_get}
use Rattle.program_netpbm.specs.Headers.{header_number, kind_said_number, kind_said_rules}

pub header_number_lem : (text : List ℕ) (r : code.Option (Size × Cursor)) → Told header_get text 0 (read r) → header_number r ≡ refusal (reader_rules header_get text 0)
header_number_lem text (code.Some r) t = told_number header_get text 0 (some (r.0, r.1.at)) t
header_number_lem text code.None t = told_number header_get text 0 none t

-- And of the kind that its numbers say.
pub said_number : (p m : ℕ) (r : code.Option Kind) → answered r ≡ kind_by p m → kind_said_number r ≡ refusal (kind_said_rules p m)
said_number p m (code.Some k) e = rw (sym e)
said_number p m code.None e = rw (sym e)

pub said_smallest : (p m : ℕ) → SmallestGiven (kind_said_rules p m)
said_smallest p m = given-smallest _ refl
