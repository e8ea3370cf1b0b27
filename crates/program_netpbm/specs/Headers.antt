-- What is read of a Netpbm header.
use Rattle.std.specs.Prelude as code
use Rattle.std.specs.Prelude.{List, [], ◌∷◌, ℕ}
use Rattle.pictures.specs.Numbers.{largest_number}
use Rattle.pictures.specs.declared.sizes.Kind.{Kind}
use Rattle.pictures.specs.declared.sizes.Size.{Size}
use Rattle.pictures.specs.Refusals.{Rule, ◌when◌}
use Rattle.text_theory.specs.Readers.{Get, give, ◌▷◌, after}
use Rattle.text_theory.specs.Decimal.{number_get}
use Rattle.text_theory.specs.Files.{line_end}
use Rattle.text_read.specs.declared.cursor.Cursor.{Cursor}
use Rattle.text_read.specs.Numbers.{unread}
use Rattle.program_theory.specs.Netpbm.{kind_by}

-- The last number of a line, and the line end after it.
unfoldable pub last_number : Get ℕ
last_number = number_get largest_number ▷ λ n. after line_end (give n)

-- The number by which the two numbers of a header that say a kind are refused: 1, "Netpbm header breaks its form", where they say
-- none, and else 0; and the rule that gives it.
abbrev pub kind_said_number : code.Option Kind → ℕ
kind_said_number code.None = 1
kind_said_number (code.Some k) = 0

abbrev pub kind_said_rules : ℕ → ℕ → List Rule
kind_said_rules p m = 1 when unread (kind_by p m) ∷ []

-- The number of what is read of a header: 1, "Netpbm header breaks its form", and 0 where it says a size.
abbrev pub header_number : code.Option (Size × Cursor) → ℕ
header_number code.None = 1
header_number (code.Some r) = 0
