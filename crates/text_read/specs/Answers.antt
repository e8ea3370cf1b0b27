-- What reading a text answers, in terms of its definition.
use Rattle.std.specs.Prelude.{◌≡◌, Bool, ◌&&◌, cond, List, [], ◌∷◌, ℕ, ◌-◌, ◌≤◌, ◌<◌, leb, eqb, length, drop}
use Rattle.std.specs.Prelude as code
use Rattle.std.proofs.Math.Option.{Option, none, some}
use Rattle.pictures.specs.declared.sizes.Kind.TheVariants.{Rgb}
use Rattle.pictures.specs.Numbers.{largest_number}
use Rattle.text_theory.specs.declared.Name.{Name}
use Rattle.text_theory.specs.Readers.{Get, give, ◌▷◌, after, either}
use Rattle.text_theory.specs.Decimal.{number_get, is_digit}
use Rattle.text_theory.specs.Words.{name_get, named}
use Rattle.text_theory.specs.Files.{line_end, opening, items, pixel_get}
use Rattle.text_read.specs.declared.cursor.Class.{Class}
use Rattle.text_read.specs.declared.cursor.Class.TheVariants.{Digit, Letter, Opening, Closing, Blank, LineEnd, Other}
use Rattle.text_read.specs.declared.cursor.Cursor.{Cursor}
use Rattle.text_read.specs.declared.words.Word.{Word}
use Rattle.text_read.specs.declared.words.Word.TheVariants as words
use Rattle.text_rules.specs.declared.Items.{Items}
use Rattle.text_rules.specs.declared.Items.TheVariants.{Samples, Pixels, Numbers}

-- "Each byte read is a digit, a small letter, a bracket, a blank, a line end or refused."
unfoldable pub is_letter : ℕ → Bool
is_letter b = leb 97 b && leb b 122

unfoldable pub class_of : ℕ → Class
class_of b =
    cond (is_digit b) (Digit (b - 48)) (cond (is_letter b) (Letter b) (cond (eqb b 40) Opening (cond (eqb b 41) Closing
    (cond (eqb b 32) Blank (cond (eqb b 10) LineEnd Other)))))

-- The number of a class, by which two are told apart.
abbrev pub class_number : Class → ℕ
class_number (Digit d) = 0
class_number (Letter b) = 1
class_number Opening = 2
class_number Closing = 3
class_number Blank = 4
class_number LineEnd = 5
class_number Other = 6

-- One byte of a class.
unfoldable pub of_class : Class → Get ℕ
of_class k [] = none
of_class k (b ∷ s) = cond (eqb (class_number (class_of b)) (class_number k)) (give 0 s) none

-- A value and the place after it, read as a value and the bytes from that place on.
abbrev pub read_on : {A : Type 0} → List ℕ → Option (A × ℕ) → Option (A × List ℕ)
read_on text none = none
read_on text (some r) = some (r.0, drop r.1 text)

-- The place moves on, and stays in the text.
abbrev pub ahead : {A : Type 0} → ℕ → ℕ → Option (A × ℕ) → Type 0
ahead len at none = Unit
ahead len at (some r) = (at < r.1) × (r.1 ≤ len)

-- What is found at the place `at` of the text is what the reader gives there, and "the place where reading goes on".
pub record Told {A : Type 0} (get : Get A) (text : List ℕ) (at : ℕ) (found : Option (A × ℕ)) : Type 0 where
  pub same : get (drop at text) ≡ read_on text found
  pub moved : ahead (length text) at found

-- Answers of the code: a value and the place after it, and a place alone, where bytes were read that say no value.
abbrev pub read : {A : Type 0} → code.Option (A × Cursor) → Option (A × ℕ)
read code.None = none
read (code.Some r) = some (r.0, r.1.at)

abbrev pub passed : code.Option Cursor → Option (ℕ × ℕ)
passed code.None = none
passed (code.Some c) = some (0, c.at)

-- "Reading a word gives the word and the place where reading goes on." A word of a file is a number or a name.
unfoldable pub word : Get Word
word s = either ((number_get largest_number ▷ λ n. give (words.Number n)) s) ((name_get ▷ λ n. give (words.Name n)) s)

-- How a line begins: its opening bracket and its name, read as a word.
unfoldable pub beginning : Name → Get ℕ
beginning n = after opening (named n)

-- How many values a reader reads.
unfoldable pub counted : {A : Type 0} → Get (List A) → Get ℕ
counted g = g ▷ λ xs. give (length xs)

-- "A form is an opening bracket, words or further forms, a closing bracket": an item, and the items up to the closing
-- bracket, counted.
unfoldable pub item_of : Items → Get ℕ
item_of Samples = number_get 255
item_of Pixels = counted (pixel_get Rgb)
item_of Numbers = number_get largest_number

unfoldable pub form_of : Items → Get ℕ
form_of Samples = counted (items (number_get 255))
form_of Pixels = counted (items (pixel_get Rgb))
form_of Numbers = counted (items (number_get largest_number))

-- The items of a line, the closing bracket, the line end.
unfoldable pub line_rest : Items → Get ℕ
line_rest w = form_of w ▷ λ n. after line_end (give n)
