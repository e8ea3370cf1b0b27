-- `text_scan::scan` meets its contract: after the head, the row lines and the map lines, what is left of the text is left to read.
use Rattle.std.proofs.Common.{◌≡◌, Bool, ◌&&◌, List, ℕ}
use Rattle.std.proofs.Math.Option.{some}
use Rattle.text_theory.specs.declared.Head.{Head}
use Rattle.text_theory.specs.declared.Name.TheVariants as name
use Rattle.text_theory.specs.Readers.{Get, give, ◌▷◌, after}
use Rattle.text_theory.specs.Files.{begun, closed, row_word, map_word, head_get}
use Rattle.text_rules.specs.declared.Items.{Items}
use Rattle.text_rules.specs.declared.Items.TheVariants.{Numbers}
use Rattle.text_rules.specs.Items.{items_of}
use Rattle.text_read.specs.Answers.{Told}
use Rattle.text_read.proofs.Onward.{Left, left_start, left-past, left_no_past, left_then, left_no_then}
use Rattle.text_scan.specs.declared.Facts.{Facts}
use Rattle.text_scan.specs.Inner.{Reached, lines_of, scan_of}
use Rattle.text_scan.proofs.WholeText.{left_reach, left_no_reach, scan_none, scan_more, scan_end}
use Rattle.text_scan.proofs.scan.Goals as goal

-- The text from each part on.
abbrev from_end : Head → ℕ × Bool → ℕ × Bool → Get Facts
from_end h r m = after closed (give (record { head = h; rows = r.0; maps = m.0; full = r.1 && m.1 }))

abbrev from-maps : Head → ℕ × Bool → Get Facts
from-maps h r = lines_of map_word Numbers h.size.width ▷ from_end h r

abbrev from-rows : Head → Get Facts
from-rows h = lines_of row_word (items_of h.size.kind) h.size.width ▷ from-maps h

-- What is left after the head, the row lines, the map lines.
module _ {text : List ℕ} {h : Head} {a : ℕ} (H : Told head_get text 0 (some (h, a))) where
  after-head : Left scan_of text 0 (from-rows h) a
  unfolding scan_of
  after-head = left_then from-rows left_start H

  module _ {i : Items} (e : i ≡ items_of h.size.kind) where
    after-rows : {r : ℕ × Bool} {b : ℕ} → Reached (lines_of (begun name.Row) i h.size.width) text a (some (r, b)) → Left scan_of text 0 (from-maps h r) b
    unfolding row_word
    after-rows R = left_reach (from-maps h) after-head (rw e at R)

    after-maps : {r m : ℕ × Bool} {b c : ℕ} → Reached (lines_of (begun name.Row) i h.size.width) text a (some (r, b))
        → Reached (lines_of (begun name.Map) Numbers h.size.width) text b (some (m, c)) → Left scan_of text 0 (from_end h r m) c
    unfolding map_word
    after-maps {r} R M = left_reach (from_end h r) (after-rows R) M

pub returns-in_err-head : goal.returns-in_err-head
unfolding scan_of
returns-in_err-head c = scan_none c.from_residual.ensures (left_no_then from-rows left_start c.in_err-head.ensures)

pub returns-in_err-rows : goal.returns-in_err-rows
unfolding row_word
returns-in_err-rows c =
    scan_none c.from_residual-in_err-rows.ensures
    (left_no_reach (from-maps c.in_ok-head.head) (after-head c.in_ok-head.ensures) (rw c.items_of-items.ensures at c.in_err-rows.ensures))

pub returns-in_err-maps : goal.returns-in_err-maps
unfolding map_word
returns-in_err-maps c =
    scan_none c.from_residual-in_err-maps.ensures
    (left_no_reach (from_end c.in_ok-head.head _) (after-rows c.in_ok-head.ensures c.items_of-items.ensures c.in_ok-rows.ensures)
    c.in_err-maps.ensures)

pub returns-in_err-end : goal.returns-in_err-end
returns-in_err-end c =
    scan_none c.from_residual-in_err-end.ensures
    (left_no_past closed _ (after-maps c.in_ok-head.ensures c.items_of-items.ensures c.in_ok-rows.ensures c.in_ok-maps.ensures)
    c.in_err-end.ensures)

pub returns-then-more : goal.returns-then-more
returns-then-more c =
    scan_more
    (left-past closed (after-maps c.in_ok-head.ensures c.items_of-items.ensures c.in_ok-rows.ensures c.in_ok-maps.ensures)
    c.in_ok-end.ensures)
    c.if-more.true

pub returns : goal.returns
returns c =
    rw c.are_full-full.ensures
    (scan_end
    (left-past closed (after-maps c.in_ok-head.ensures c.items_of-items.ensures c.in_ok-rows.ensures c.in_ok-maps.ensures)
    c.in_ok-end.ensures)
    c.if-more.false)
