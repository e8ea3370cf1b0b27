-- `program_netpbm::netpbm::read_header` meets its contract: after each of its parts, what is left of the header is left to read.
use mathlib.Core.List.{List}
use mathlib.Core.Option.{some}
use Prim.Native.Nat.{ℕ}
use native.Mathlib.Omega.{arith}
use Rattle.pictures.specs.Numbers.{largest_number}
use Rattle.pictures.specs.declared.sizes.Size.{Size}
use Rattle.text_theory.specs.Readers.{Get, give, ◌▷◌, after, known}
use Rattle.text_theory.specs.Decimal.{number_get}
use Rattle.text_theory.specs.Files.{blank, line_end}
use Rattle.text_read.specs.Answers.{Told}
use Rattle.text_read.proofs.ByteClasses.{told_blank}
use Rattle.text_read.proofs.Onward.{refused, Left, left_then, left_no_then, left-past, left_no_past}
use Rattle.program_theory.specs.Netpbm.{kind_by, header_get}
use Rattle.program_netpbm.specs.Headers.{last_number}
use Rattle.program_netpbm.proofs.Headers.{no_text, no_letter, left_letter, left_last, left_no_last, left-known, left-unknown, left-give}
use Rattle.program_netpbm.proofs.netpbm.read_header.Goals as goal
use Rattle.program_netpbm.proofs.netpbm.read_header.Goals.{Else-text-ne80, In_ok-c, then-is_empty-via-then-is_empty, then-is_empty-via-else-is_empty+then-text-ne80}

-- The header from each of its parts on.
abbrev from-kind : ℕ → ℕ → ℕ → ℕ → Get Size
from-kind p w h m = known (kind_by p m) ▷ λ k. give (record { width = w; height = h; kind = k })

abbrev from-maxval : ℕ → ℕ → ℕ → Get Size
from-maxval p w h = number_get largest_number ▷ λ m. after line_end (from-kind p w h m)

abbrev from-height : ℕ → ℕ → Get Size
from-height p w = number_get largest_number ▷ λ h. after line_end (from-maxval p w h)

abbrev from-width : ℕ → Get Size
from-width p = number_get largest_number ▷ λ w. after blank (from-height p w)

abbrev from-magic : Get Size
from-magic = number_get largest_number ▷ λ p. after line_end (from-width p)

-- What is left after the letter, the magic number, the width.
begun : (c : Else-text-ne80) → Left header_get c.args.text.now 0 from-magic 1
unfolding header_get
begun c = left_letter from-magic c.is_empty.ensures c.if-is_empty.false c.if-text-ne80.false

module _ {text : List ℕ} (L : Left header_get text 0 from-magic 1) {p a : ℕ} (P : Told last_number text 1 (some (p, a))) where
  after-magic : Left header_get text 0 (from-width p) a
  after-magic = left_last from-width L P

  after-width : {w b : ℕ} → Told (number_get largest_number) text a (some (w, b)) → Left header_get text 0 (after blank (from-height p w)) b
  after-width W = left_then _ after-magic W

-- And after the blank, the height, the maxval.
module _ (c : In_ok-c) where
  after-blank : Left header_get c.args.text.now 0 (from-height c.in_ok-magic.magic c.in_ok-width.width) c.in_ok-c.c.at
  unfolding header_get
  after-blank =
      left-past blank (after-width (left_letter from-magic c.is_empty.ensures c.if-is_empty.false c.if-text-ne80.false) c.in_ok-magic.ensures c.in_ok-width.ensures)
      (told_blank c.in_ok-c.ensures)

  module _ {h e : ℕ} (H : Told last_number c.args.text.now c.in_ok-c.c.at (some (h, e))) where
    after-height : Left header_get c.args.text.now 0 (from-maxval c.in_ok-magic.magic c.in_ok-width.width h) e
    after-height = left_last (from-maxval _ _) after-blank H

    after-maxval : {m f : ℕ} → Told last_number c.args.text.now e (some (m, f)) → Left header_get c.args.text.now 0 (from-kind c.in_ok-magic.magic c.in_ok-width.width h m) f
    after-maxval M = left_last (from-kind _ _ h) after-height M

pub returns-then-is_empty : goal.returns-then-is_empty
unfolding header_get
returns-then-is_empty c =
    elim c.then-is_empty.branch [
      | then-is_empty-via-then-is_empty w ↦ no_text from-magic c.is_empty.ensures w.if-is_empty.true
      | then-is_empty-via-else-is_empty+then-text-ne80 w ↦ no_letter from-magic c.is_empty.ensures w.if-is_empty.false w.if-text-ne80.true
    ]

pub returns-in_err-magic : goal.returns-in_err-magic
returns-in_err-magic c =
    refused c.from_residual.ensures (left_no_last from-width (begun (goal.at.returns-in_err-magic c).Else-text-ne80) c.in_err-magic.ensures)

pub returns-in_err-width : goal.returns-in_err-width
returns-in_err-width c =
    refused c.from_residual-in_err-width.ensures
    (left_no_then _ (after-magic (begun (goal.at.returns-in_err-width c).Else-text-ne80) c.in_ok-magic.ensures) c.in_err-width.ensures)

pub returns-in_err-c : goal.returns-in_err-c
returns-in_err-c c =
    refused c.from_residual-in_err-c.ensures
    (left_no_past blank _ (after-width (begun (goal.at.returns-in_err-c c).Else-text-ne80) c.in_ok-magic.ensures c.in_ok-width.ensures)
    (told_blank c.in_err-c.ensures))

pub returns-in_err-height : goal.returns-in_err-height
returns-in_err-height c =
    refused c.from_residual-in_err-height.ensures (left_no_last _ (after-blank (goal.at.returns-in_err-height c).In_ok-c) c.in_err-height.ensures)

pub returns-in_err-maxval : goal.returns-in_err-maxval
returns-in_err-maxval c =
    refused c.from_residual-in_err-maxval.ensures
    (left_no_last _ (after-height (goal.at.returns-in_err-maxval c).In_ok-c c.in_ok-height.ensures) c.in_err-maxval.ensures)

pub returns-in_err-kind : goal.returns-in_err-kind
returns-in_err-kind c =
    refused c.from_residual-in_err-kind.ensures
    (left-unknown _ _ (after-maxval (goal.at.returns-in_err-kind c).In_ok-c c.in_ok-height.ensures c.in_ok-maxval.ensures) c.in_err-kind.ensures)

pub returns : goal.returns
returns c =
    left-give (left-known _ _ (after-maxval (goal.at.returns c).In_ok-c c.in_ok-height.ensures c.in_ok-maxval.ensures) c.in_ok-kind.ensures)
    (omega arith) c.in_ok-maxval.ensures.moved
