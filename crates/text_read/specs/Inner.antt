-- What the functions inside this crate promise each other.
use Rattle.std.specs.Prelude.{◌≡◌, true, false, cond, List, [], ◌∷◌, ◌++◌, ℕ, zero, suc, ◌+◌, ◌-◌, ◌*◌, ◌≤◌, ◌<◌, ltb, eqb, length, get_or, drop}
use Rattle.std.specs.Prelude as code
use Rattle.std.proofs.Math.Option.{Option, none, some}
use Rattle.grids.specs.Rows.{flat}
use Rattle.pictures.specs.declared.sizes.Kind.TheVariants.{Grey, Rgb}
use Rattle.pictures.specs.Numbers.{largest_number}
use Rattle.text_theory.specs.declared.Name.{Name}
use Rattle.text_theory.specs.Readers.{Get, give, ◌▷◌, after}
use Rattle.text_theory.specs.Decimal.{number_get, is_digit, further, up_to}
use Rattle.text_theory.specs.Files.{begun, pixel_get, line}
use Rattle.text_rules.specs.declared.Items.{Items}
use Rattle.text_rules.specs.declared.Items.TheVariants.{Samples, Pixels, Numbers}
use Rattle.text_read.specs.declared.cursor.Class.{Class}
use Rattle.text_read.specs.Answers.{Told, class_of, item_of, form_of}

-- The class of the byte at a place, or the text's end.
abbrev pub ClassAt : List ℕ → ℕ → code.Option Class → Type 0
ClassAt text at code.None = length text ≤ at
ClassAt text at (code.Some k) = (at < length text) × (k ≡ class_of (get_or text at 0))

-- What a byte is as a digit, and the digit at a place.
abbrev pub DigitOf : ℕ → code.Option ℕ → Type 0
DigitOf b code.None = is_digit b ≡ false
DigitOf b (code.Some d) = (is_digit b ≡ true) × (d ≡ b - 48)

abbrev pub DigitAt : List ℕ → ℕ → code.Option ℕ → Type 0
DigitAt text at code.None = at < length text → is_digit (get_or text at 0) ≡ false
DigitAt text at (code.Some d) = (at < length text) × DigitOf (get_or text at 0) (code.Some d)

abbrev pub DigitIs : List ℕ → ℕ → ℕ → Type 0
DigitIs text at d = DigitAt text at (code.Some d)

-- Digits that begin a number: n is what those between start and at say.
pub record Reading (limit : ℕ) (text : List ℕ) (start n at : ℕ) : Type 0 where
  pub same : number_get limit (drop start text) ≡ up_to limit (further n (drop at text))
  pub there : start < at
  pub inside : at ≤ length text
  pub small : n ≤ 10 * largest_number + 9

-- A form of items that are numbers up to a limit.
abbrev pub ToldNumbers : ℕ → List ℕ → ℕ → Option (ℕ × ℕ) → Type 0
ToldNumbers limit text at found = (w : Items) → item_of w ≡ number_get limit → Told (form_of w) text at found

-- n at the place, if the limit admits it.
abbrev pub within : ℕ → ℕ → ℕ → Option (ℕ × ℕ)
within limit n at = cond (ltb limit n) none (some (n, at))

-- The bytes w.
abbrev pub passing : List ℕ → Get ℕ
passing w = after w (give 0)

-- The bytes from the first digit on.
unfoldable pub skipped : List ℕ → List ℕ
skipped [] = []
skipped (b ∷ s) = cond (is_digit b) (b ∷ s) (skipped s)

-- The next number, whatever stands before it; and the next n numbers.
unfoldable pub figure : Get ℕ
figure s = number_get largest_number (skipped s)

abbrev pub also : Option (ℕ × List ℕ) → (List ℕ → List ℕ) → List ℕ
also none f = []
also (some r) f = r.0 ∷ f r.1

unfoldable pub figures : ℕ → List ℕ → List ℕ
figures zero s = []
figures (suc n) s = also (figure s) (figures n)

-- n numbers come next, none over the limit.
abbrev pub Coming : ℕ → ℕ → List ℕ → Type 0
Coming limit zero s = Unit
Coming limit (suc n) s = (r : ℕ × List ℕ) × (figure s ≡ some r) × (r.0 ≤ limit) × Coming limit n r.1

-- What follows the next n numbers, and what follows the next line end.
abbrev pub then_on : Option (ℕ × List ℕ) → (List ℕ → List ℕ) → List ℕ
then_on none f = []
then_on (some r) f = f r.1

unfoldable pub beyond : ℕ → List ℕ → List ℕ
beyond zero s = s
beyond (suc n) s = then_on (figure s) (beyond n)

unfoldable pub after_line : List ℕ → List ℕ
after_line [] = []
after_line (b ∷ s) = cond (eqb b 10) s (after_line s)

-- Where n numbers come next, none over the limit: they were read, and the place is after the line end that follows them.
pub record Numbered (limit n : ℕ) (text : List ℕ) (at next : ℕ) (read : List ℕ) : Type 0 where
  pub numbers : Coming limit n (drop at text) → read ≡ figures n (drop at text)
  pub place : Coming limit n (drop at text) → drop next text ≡ after_line (beyond n (drop at text))

-- Of each kind of items: how large their numbers may be, how many numbers an item has, the reader of all numbers of such a line from its
-- name on, and that of the line.
abbrev pub limit_of : Items → ℕ
limit_of Samples = 255
limit_of Pixels = 255
limit_of Numbers = largest_number

abbrev pub numbers_of : Items → ℕ
numbers_of Samples = 1
numbers_of Pixels = 3
numbers_of Numbers = 1

abbrev pub values_get : Items → Get (List ℕ)
values_get Samples = line (pixel_get Grey) ▷ λ row. give (flat row)
values_get Pixels = line (pixel_get Rgb) ▷ λ row. give (flat row)
values_get Numbers = line (number_get largest_number)

abbrev pub line_of : Name → Items → Get (List ℕ)
line_of n what = after (begun n) (values_get what)
