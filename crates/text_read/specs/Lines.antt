-- A line read into a lent space.
use Rattle.std.specs.Prelude.{◌≡◌, cond, List, ◌++◌, ℕ, leb, length, drop}
use Rattle.std.proofs.Math.Option.{Option, none, some}
use Rattle.grids.specs.Rows.{flat}
use Rattle.pictures.specs.declared.sizes.Kind.{Kind}
use Rattle.pictures.specs.Numbers.{largest_number, pairs}
use Rattle.text_theory.specs.Readers.{Get, give, ◌▷◌, after}
use Rattle.text_theory.specs.Decimal.{number_get}
use Rattle.text_theory.specs.Files.{row_word, map_word, pixel_get, line}
use Rattle.text_read.specs.Answers.{Told, counted}

-- A row line's samples, and a map line's numbers.
unfoldable pub row_line : Kind → Get (List ℕ)
row_line k = after row_word (line (pixel_get k) ▷ λ row. give (flat row))

unfoldable pub map_line : Get (List ℕ)
map_line = after map_word (line (number_get largest_number))

-- What a reader gives, if it has at most n values.
unfoldable pub fitting : ℕ → Get (List ℕ) → Get (List ℕ)
fitting n get = get ▷ λ xs. cond (leb (length xs) n) (give xs) (λ s. none)

-- What was read stands at the front of the space, which keeps what is after it; where nothing was read, it keeps all.
abbrev pub laid : Option (List ℕ × List ℕ) → List ℕ → List ℕ
laid none out = out
laid (some r) out = r.0 ++ drop (length r.0) out

-- The line at a place of a text, read into a space if it fits: how many values it has, and "the place where reading goes on".
pub record Taken (get : Get (List ℕ)) (text : List ℕ) (at : ℕ) (out : List ℕ) (found : Option (ℕ × ℕ)) (out' : List ℕ) : Type 0 where
  pub told : Told (counted (fitting (length out) get)) text at found
  pub space : out' ≡ laid (fitting (length out) get (drop at text)) out

-- A map line's numbers, two bytes each.
unfoldable pub record_line : Get (List ℕ)
record_line = map_line ▷ λ xs. give (pairs xs)

-- A line that is known to stand at a place of a text, read into a space that is as long as its values: they fill the space, and
-- `next` is "the place where reading goes on". Where none stands there, or the space has another length, nothing is said but how
-- long the space stays.
pub record Known (get : Get (List ℕ)) (text : List ℕ) (at : ℕ) (out : List ℕ) (next : ℕ) (out' : List ℕ) : Type 0 where
  pub line : (xs rest : List ℕ) → get (drop at text) ≡ some (xs, rest) → length xs ≡ length out → (out' ≡ xs) × (drop next text ≡ rest)
  pub long : length out' ≡ length out

-- The same of a row line, whatever the kind of its pixels.
abbrev pub KnownRow : List ℕ → ℕ → List ℕ → ℕ → List ℕ → Type 0
KnownRow text at out next out' = (k : Kind) → Known (row_line k) text at out next out'
