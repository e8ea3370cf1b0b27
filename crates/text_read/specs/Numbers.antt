-- The numbers that the readers' answers stand for: 1, "text .. breaks its form", and 0 where something was read.
use Rattle.std.specs.Prelude.{Bool, true, false, List, [], ◌∷◌, ℕ, ltb, length, drop}
use Rattle.std.specs.Prelude as code
use Rattle.std.proofs.Math.Option.{Option, none, some}
use Rattle.pictures.specs.Refusals.{Rule, ◌when◌}
use Rattle.text_theory.specs.Readers.{Get}
use Rattle.text_read.specs.declared.cursor.Cursor.{Cursor}

-- The number of what is found at a place: the same of every reader.
abbrev pub missing : {A : Type 0} → Option (A × ℕ) → ℕ
missing none = 1
missing (some r) = 0

-- Whether a reader gives none, and the rule that it makes at a place of a text.
abbrev pub unread : {A : Type 0} → Option A → Bool
unread none = true
unread (some a) = false

abbrev pub reader_rules : {A : Type 0} → Get A → List ℕ → ℕ → List Rule
reader_rules get text at = 1 when unread (get (drop at text)) ∷ []

-- A line read into a space is answered alike where it breaks its form and where it has it but the space is shorter than its
-- values. The answer stands for 1 in the first case, which `broken` says, and for 8 in the second.
abbrev pub line_number : Bool → code.Option (ℕ × Cursor) → ℕ
line_number broken (code.Some r) = 0
line_number true code.None = 1
line_number false code.None = 8

-- How many values the line has that a reader gives.
abbrev pub line_length : Option (List ℕ × List ℕ) → ℕ
line_length none = 0
line_length (some r) = length r.0

abbrev pub line_rules : Get (List ℕ) → List ℕ → ℕ → ℕ → List Rule
line_rules get text at space = 1 when unread (get (drop at text)) ∷ 8 when ltb space (line_length (get (drop at text))) ∷ []
