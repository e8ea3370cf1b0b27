-- `text_read::cursor::Cursor::size_line` meets its contract: after each word, what is left of the line is left to read.
use Rattle.std.proofs.Common.{List, ℕ}
use Rattle.std.proofs.Math.Option.{some}
use Rattle.pictures.specs.declared.sizes.Kind.{Kind}
use Rattle.pictures.specs.declared.sizes.Size.{Size}
use Rattle.pictures.specs.Numbers.{largest_number}
use Rattle.text_theory.specs.declared.Name.TheVariants as name
use Rattle.text_theory.specs.Readers.{Get, give, ◌▷◌, after}
use Rattle.text_theory.specs.Decimal.{number_get}
use Rattle.text_theory.specs.Words.{kind_get}
use Rattle.text_theory.specs.Files.{blank, closed, begun, size_get}
use Rattle.text_read.specs.declared.cursor.Class.TheVariants.{Blank}
use Rattle.text_read.specs.Answers.{Told, of_class, beginning}
use Rattle.text_read.proofs.ByteClasses.{told_blank}
use Rattle.text_read.proofs.Onward.{refused, Left, left_start, left-past, left_no_past, left-past-give, left_then, left_no_then, spaced, left_spaced, left_no_spaced, told_begun}
use Rattle.text_read.proofs.cursor.Cursor.size_line.Goals as goal

-- The line from each word on.
abbrev from-closing : ℕ → ℕ → Kind → Get Size
from-closing w h k = after closed (give (record { width = w; height = h; kind = k }))

abbrev from-height : ℕ → ℕ → Get Size
from-height w h = after blank (kind_get ▷ from-closing w h)

abbrev from-width : ℕ → Get Size
from-width w = after blank (number_get largest_number ▷ from-height w)

-- What is left after the name, the width, the height, the blank, the kind.
module _ {text : List ℕ} {from v a : ℕ} (N : Told (beginning name.Size) text from (some (v, a))) where
  after-name : Left size_get text from (after blank (number_get largest_number ▷ from-width)) a
  unfolding size_get
  after-name = left-past (begun name.Size) left_start (told_begun name.Size N)

  module _ {w b : ℕ} (W : Told spaced text a (some (w, b))) where
    after-width : Left size_get text from (from-width w) b
    after-width = left_spaced from-width after-name W

    module _ {h c : ℕ} (H : Told spaced text b (some (h, c))) where
      after-height : Left size_get text from (from-height w h) c
      after-height = left_spaced (from-height w) after-width H

      module _ {u d : ℕ} (B : Told (of_class Blank) text c (some (u, d))) where
        after-blank : Left size_get text from (kind_get ▷ from-closing w h) d
        after-blank = left-past blank after-height (told_blank B)

        after-kind : {k : Kind} {e : ℕ} → Told kind_get text d (some (k, e)) → Left size_get text from (from-closing w h k) e
        after-kind K = left_then (from-closing w h) after-blank K

pub returns-in_err-a : goal.returns-in_err-a
unfolding size_get
returns-in_err-a c =
    refused c.from_residual.ensures
    (left_no_past (begun name.Size) _ left_start (told_begun name.Size c.in_err-a.ensures))

pub returns-in_err-width : goal.returns-in_err-width
returns-in_err-width c =
    refused c.from_residual-in_err-width.ensures
    (left_no_spaced from-width (after-name c.in_ok-a.ensures) c.in_err-width.ensures)

pub returns-in_err-height : goal.returns-in_err-height
returns-in_err-height c =
    refused c.from_residual-in_err-height.ensures
    (left_no_spaced (from-height _) (after-width c.in_ok-a.ensures c.in_ok-width.ensures) c.in_err-height.ensures)

pub returns-in_err-d : goal.returns-in_err-d
returns-in_err-d c =
    refused c.from_residual-in_err-d.ensures
    (left_no_past blank _ (after-height c.in_ok-a.ensures c.in_ok-width.ensures c.in_ok-height.ensures) (told_blank c.in_err-d.ensures))

pub returns-in_err-kind : goal.returns-in_err-kind
returns-in_err-kind c =
    refused c.from_residual-in_err-kind.ensures
    (left_no_then _ (after-blank c.in_ok-a.ensures c.in_ok-width.ensures c.in_ok-height.ensures c.in_ok-d.ensures) c.in_err-kind.ensures)

pub returns-in_err-f : goal.returns-in_err-f
returns-in_err-f c =
    refused c.from_residual-in_err-f.ensures
    (left_no_past closed _ (after-kind c.in_ok-a.ensures c.in_ok-width.ensures c.in_ok-height.ensures c.in_ok-d.ensures c.in_ok-kind.ensures) c.in_err-f.ensures)

pub returns : goal.returns
returns c =
    left-past-give closed
    (after-kind c.in_ok-a.ensures c.in_ok-width.ensures c.in_ok-height.ensures c.in_ok-d.ensures c.in_ok-kind.ensures)
    c.in_ok-f.ensures
