-- `text_read::cursor::Cursor::header` meets its contract: after each line, what is left of the head is left to read.
use Rattle.std.proofs.Common.{List, ℕ}
use Rattle.std.proofs.Math.Option.{some}
use Rattle.pictures.specs.declared.sizes.Size.{Size}
use Rattle.energy.specs.declared.methods.EnergyRule.{EnergyRule}
use Rattle.text_theory.specs.declared.Head.{Head}
use Rattle.text_theory.specs.declared.Name.TheVariants as name
use Rattle.text_theory.specs.Readers.{Get, give, ◌▷◌, after}
use Rattle.text_theory.specs.Files.{line_end, begun, size_get, range_get, energy_get, head_get}
use Rattle.text_read.specs.declared.cursor.Class.TheVariants.{LineEnd}
use Rattle.text_read.specs.Answers.{Told, of_class, beginning}
use Rattle.text_read.proofs.ByteClasses.{told_line_end}
use Rattle.text_read.proofs.Onward.{refused, Left, left_start, left_as, left-past, left_no_past, left_then, left_no_then, left_then_give, told_begun, after_first}
use Rattle.text_read.proofs.cursor.Cursor.header.Goals as goal

-- The head from each line on.
abbrev head_of : Size → ℕ × ℕ → EnergyRule → Head
head_of z r e = record { size = z; method = record { energy = e }; depth = r.0; growth = r.1 }

abbrev from-energy : Size → ℕ × ℕ → Get Head
from-energy z r = energy_get ▷ λ e. give (head_of z r e)

abbrev from-range : Size → Get Head
from-range z = range_get ▷ from-energy z

-- What is left after the first line's name, the first line, the lines of the size and of the range.
at-start : (text : List ℕ) (from : ℕ) → Left head_get text from (after (begun name.Multi) (after line_end (size_get ▷ from-range))) from
unfolding head_get
at-start text from = left_as (after_first (size_get ▷ from-range)) left_start

module _ {text : List ℕ} {from v a : ℕ} (N : Told (beginning name.Multi) text from (some (v, a))) where
  after-name : Left head_get text from (after line_end (size_get ▷ from-range)) a
  after-name = left-past (begun name.Multi) (at-start text from) (told_begun name.Multi N)

  module _ {u b : ℕ} (E : Told (of_class LineEnd) text a (some (u, b))) where
    after-first-line : Left head_get text from (size_get ▷ from-range) b
    after-first-line = left-past line_end after-name (told_line_end E)

    module _ {z : Size} {c : ℕ} (S : Told size_get text b (some (z, c))) where
      after-size : Left head_get text from (from-range z) c
      after-size = left_then from-range after-first-line S

      after-range : {r : ℕ × ℕ} {d : ℕ} → Told range_get text c (some (r, d)) → Left head_get text from (from-energy z r) d
      after-range R = left_then (from-energy z) after-size R

pub returns-in_err-a : goal.returns-in_err-a
returns-in_err-a c =
    refused c.from_residual.ensures
    (left_no_past (begun name.Multi) _ (at-start _ _) (told_begun name.Multi c.in_err-a.ensures))

pub returns-in_err-b : goal.returns-in_err-b
returns-in_err-b c =
    refused c.from_residual-in_err-b.ensures
    (left_no_past line_end _ (after-name c.in_ok-a.ensures) (told_line_end c.in_err-b.ensures))

pub returns-in_err-size : goal.returns-in_err-size
returns-in_err-size c =
    refused c.from_residual-in_err-size.ensures
    (left_no_then from-range (after-first-line c.in_ok-a.ensures c.in_ok-b.ensures) c.in_err-size.ensures)

pub returns-in_err-depth : goal.returns-in_err-depth
returns-in_err-depth c =
    refused c.from_residual-in_err-depth.ensures
    (left_no_then _ (after-size c.in_ok-a.ensures c.in_ok-b.ensures c.in_ok-size.ensures) c.in_err-depth.ensures)

pub returns-in_err-energy : goal.returns-in_err-energy
returns-in_err-energy c =
    refused c.from_residual-in_err-energy.ensures
    (left_no_then _ (after-range c.in_ok-a.ensures c.in_ok-b.ensures c.in_ok-size.ensures c.in_ok-depth.ensures) c.in_err-energy.ensures)

pub returns : goal.returns
returns c =
    left_then_give (head_of _ _)
    (after-range c.in_ok-a.ensures c.in_ok-b.ensures c.in_ok-size.ensures c.in_ok-depth.ensures)
    c.in_ok-energy.ensures
