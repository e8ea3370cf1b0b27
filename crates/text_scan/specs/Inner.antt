-- What the functions inside this crate promise each other.
use Rattle.std.specs.Prelude.{◌≡◌, Bool, ◌&&◌, List, ℕ, ◌≤◌, length, drop}
use Rattle.std.proofs.Math.Option.{Option, none, some}
use Rattle.text_theory.specs.Readers.{Get, give, ◌▷◌, after, many}
use Rattle.text_theory.specs.Files.{closed, row_word, map_word, head_get}
use Rattle.text_rules.specs.declared.Items.{Items}
use Rattle.text_rules.specs.declared.Items.TheVariants.{Numbers}
use Rattle.text_rules.specs.Items.{items_of}
use Rattle.text_read.specs.Answers.{read_on, line_rest}
use Rattle.text_scan.specs.declared.Facts.{Facts}
use Rattle.text_scan.specs.Facts.{evenly}

-- Told, where the place may stay.
abbrev pub stays_within : {A : Type 0} → ℕ → ℕ → Option (A × ℕ) → Type 0
stays_within len at none = Unit
stays_within len at (some r) = (at ≤ r.1) × (r.1 ≤ len)

pub record Reached {A : Type 0} (get : Get A) (text : List ℕ) (at : ℕ) (found : Option (A × ℕ)) : Type 0 where
  pub same : get (drop at text) ≡ read_on text found
  pub moved : stays_within (length text) at found

-- How many lines begin with the word, and whether all have as many items as the width says.
unfoldable pub lines_of : List ℕ → Items → ℕ → Get (ℕ × Bool)
lines_of word w width = many word (line_rest w) ▷ λ ns. give (length ns, evenly width ns)

-- A whole text, its lines counted.
unfoldable pub scan_of : Get Facts
scan_of =
    head_get ▷ λ h. lines_of row_word (items_of h.size.kind) h.size.width ▷ λ r. lines_of map_word Numbers h.size.width ▷ λ m.
    after closed (give (record { head = h; rows = r.0; maps = m.0; full = r.1 && m.1 }))
