-- `text_read::cursor::Cursor::range_line` meets its contract: after each word, what is left of the line is left to read.
use Rattle.std.proofs.Common.{List, ℕ}
use Rattle.std.proofs.Math.Option.{some}
use Rattle.pictures.specs.Numbers.{largest_number}
use Rattle.text_theory.specs.declared.Name.TheVariants as name
use Rattle.text_theory.specs.Readers.{Get, give, ◌▷◌, after}
use Rattle.text_theory.specs.Decimal.{number_get}
use Rattle.text_theory.specs.Files.{blank, closed, begun, range_get}
use Rattle.text_read.specs.Answers.{Told, beginning}
use Rattle.text_read.proofs.Onward.{refused, Left, left_start, left-past, left_no_past, left-past-give, spaced, left_spaced, left_no_spaced, told_begun}
use Rattle.text_read.proofs.cursor.Cursor.range_line.Goals as goal

-- The line from each word on.
abbrev from-growth : ℕ → ℕ → Get (ℕ × ℕ)
from-growth d g = after closed (give (d, g))

abbrev from-depth : ℕ → Get (ℕ × ℕ)
from-depth d = after blank (number_get largest_number ▷ from-growth d)

-- What is left after the name, the depth, the growth.
module _ {text : List ℕ} {from v a : ℕ} (N : Told (beginning name.Range) text from (some (v, a))) where
  after-name : Left range_get text from (after blank (number_get largest_number ▷ from-depth)) a
  unfolding range_get
  after-name = left-past (begun name.Range) left_start (told_begun name.Range N)

  module _ {d b : ℕ} (D : Told spaced text a (some (d, b))) where
    after-depth : Left range_get text from (from-depth d) b
    after-depth = left_spaced from-depth after-name D

    after-growth : {g c : ℕ} → Told spaced text b (some (g, c)) → Left range_get text from (from-growth d g) c
    after-growth G = left_spaced (from-growth d) after-depth G

pub returns-in_err-a : goal.returns-in_err-a
unfolding range_get
returns-in_err-a c =
    refused c.from_residual.ensures
    (left_no_past (begun name.Range) _ left_start (told_begun name.Range c.in_err-a.ensures))

pub returns-in_err-depth : goal.returns-in_err-depth
returns-in_err-depth c =
    refused c.from_residual-in_err-depth.ensures
    (left_no_spaced from-depth (after-name c.in_ok-a.ensures) c.in_err-depth.ensures)

pub returns-in_err-growth : goal.returns-in_err-growth
returns-in_err-growth c =
    refused c.from_residual-in_err-growth.ensures
    (left_no_spaced (from-growth _) (after-depth c.in_ok-a.ensures c.in_ok-depth.ensures) c.in_err-growth.ensures)

pub returns-in_err-d : goal.returns-in_err-d
returns-in_err-d c =
    refused c.from_residual-in_err-d.ensures
    (left_no_past closed _ (after-growth c.in_ok-a.ensures c.in_ok-depth.ensures c.in_ok-growth.ensures) c.in_err-d.ensures)

pub returns : goal.returns
returns c =
    left-past-give closed (after-growth c.in_ok-a.ensures c.in_ok-depth.ensures c.in_ok-growth.ensures) c.in_ok-d.ensures
