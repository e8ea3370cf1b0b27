-- The whole text: counting its lines is counting the lines of its parts.
use mathlib.Core.Path.{◌≡◌, refl, sym, ◌∙◌}
use mathlib.Core.Bool.{Bool, ◌&&◌}
use mathlib.Core.Option.{Option, none, some}
use mathlib.Core.List.{List, [], ◌∷◌, map}
use Rattle.std.proofs.lemmas.List.{drop_more}
use Rattle.std.specs.Prelude as code
use Prim.Native.Nat.{ℕ, suc, ◌≤◌, ◌<◌}
use native.Mathlib.Omega.{arith}
use lib.ListN.{length, length-map, drop_of_length-le}
use Rattle.pictures.specs.Numbers.{largest_number}
use Rattle.text_rules.specs.declared.Items.{Items}
use Rattle.text_rules.specs.declared.Items.TheVariants.{Numbers}
use Rattle.text_theory.specs.Readers.{answered, Get, give, on, ◌▷◌, strip, onward, after, many_up_to, many}
use Rattle.text_theory.specs.Decimal.{number_get}
use Rattle.text_theory.specs.declared.Head.{Head}
use Rattle.text_theory.specs.Files.{Parts, closed, row_word, map_word, pixel_get, line, head_get, file, ended, whole, parse}
use Rattle.text_scan.specs.declared.Facts.{Facts}
use Rattle.text_read.specs.Answers.{Told, line_rest}
use Rattle.text_scan.specs.Facts.{evenly, facts_of, facts_in}
use Rattle.text_scan.specs.Inner.{Reached, lines_of, scan_of}
use Rattle.text_rules.specs.Items.{items_of}
use Rattle.text_read.proofs.LineCounts.{many_change, rest-map, rest-row}
use Rattle.text_read.proofs.Onward.{Left}
use Rattle.text_scan.proofs.Counting.{tally}

abbrev tally_all : {A : Type 0} → ℕ → List (List A) → Get (ℕ × Bool)
tally_all width xss = give (length xss, evenly width (map length xss))

-- Lines counted are the lines read, counted.
lines_read_lem : {A : Type 0} (word : List ℕ) (w : Items) (g : Get (List A)) (width : ℕ) → ((s : List ℕ) → line_rest w s ≡ on (g s) (λ xs. give (length xs)))
    → (s : List ℕ) → lines_of word w width s ≡ on (many word g s) (tally_all width)
unfolding lines_of many
lines_read_lem {A} word w g width e s = rw (many_change length g (line_rest w) e word (suc (length s)) s) (go (many_up_to (suc (length s)) word g s))
  where
    go : (o : Option (List (List A) × List ℕ)) → on (on o (λ xss. give (map length xss))) (tally width) ≡ on o (tally_all width)
    go none = refl
    go (some r) = rw length-map

pub scan_file : (s : List ℕ) → scan_of s ≡ on (file s) (λ p. give (facts_of p))
unfolding scan_of file facts_of
scan_file s = go (head_get s)
  where
    last : (h : Head) (rows : List (List (List ℕ))) (maps : List (List ℕ)) (o : Option (List ℕ))
        → onward o (give (record { head = h; rows = length rows; maps = length maps; full = evenly h.size.width (map length rows) && evenly h.size.width (map length maps) }))
        ≡ on (onward o (give (record { head = h; rows = rows; maps = maps }))) (λ p. give (facts_of p))
    last h rows maps none = refl
    last h rows maps (some t) = refl

    maps-step : (h : Head) (rows : List (List (List ℕ))) (o : Option (List (List ℕ) × List ℕ))
        → on (on o (tally_all h.size.width)) (λ m. after closed (give (record { head = h; rows = length rows; maps = m.0; full = evenly h.size.width (map length rows) && m.1 })))
        ≡ on (on o (λ maps. after closed (give (record { head = h; rows = rows; maps = maps })))) (λ p. give (facts_of p))
    maps-step h rows none = refl
    maps-step h rows (some r) = last h rows r.0 (strip closed r.1)

    rows_step : (h : Head) (o : Option (List (List (List ℕ)) × List ℕ))
        → on (on o (tally_all h.size.width)) (λ r. lines_of map_word Numbers h.size.width ▷ λ m. after closed (give (record { head = h; rows = r.0; maps = m.0; full = r.1 && m.1 })))
        ≡ on (on o (λ rows. many map_word (line (number_get largest_number)) ▷ λ maps. after closed (give (record { head = h; rows = rows; maps = maps })))) (λ p. give (facts_of p))
    rows_step h none = refl
    rows_step h (some r) = rw (lines_read_lem map_word Numbers (line (number_get largest_number)) h.size.width rest-map r.1) (maps-step h r.0 (many map_word (line (number_get largest_number)) r.1))

    go : (o : Option (Head × List ℕ))
        → on o (λ h. lines_of row_word (items_of h.size.kind) h.size.width ▷ λ r. lines_of map_word Numbers h.size.width ▷ λ m. after closed (give (record { head = h; rows = r.0; maps = m.0; full = r.1 && m.1 })))
        ≡ on (on o (λ h. many row_word (line (pixel_get h.size.kind)) ▷ λ rows. many map_word (line (number_get largest_number)) ▷ λ maps. after closed (give (record { head = h; rows = rows; maps = maps })))) (λ p. give (facts_of p))
    go none = refl
    go (some r) = rw (lines_read_lem row_word (items_of r.0.size.kind) (line (pixel_get r.0.size.kind)) r.0.size.width (rest-row r.0.size.kind) r.1) (rows_step r.0 (many row_word (line (pixel_get r.0.size.kind)) r.1))

facts_of-parse : (s : List ℕ) → facts_in (parse s) ≡ whole (scan_of s)
unfolding parse whole
facts_of-parse s = rw scan_file (go (file s))
  where
    last : (p : Parts) (t : List ℕ) → facts_in (ended t p) ≡ ended t (facts_of p)
    last p [] = refl
    last p (b ∷ t) = refl

    go : (o : Option (Parts × List ℕ)) → facts_in (whole o) ≡ whole (on o (λ p. give (facts_of p)))
    go none = refl
    go (some r) = last r.0 r.1

pub scan_none : {text : List ℕ} {r : code.Option Facts} → r ≡ code.None → Told scan_of text 0 none → answered r ≡ facts_in (parse text)
unfolding whole
scan_none {text} e t = rw e (sym (facts_of-parse text ∙ rw t.same))

module _ {text : List ℕ} {f : Facts} {at : ℕ} (L : Left scan_of text 0 (give f) at) where
  pub scan_more : at < length text → none ≡ facts_in (parse text)
  unfolding whole
  scan_more h = sym (facts_of-parse text ∙ rw (L.same, drop_more text at 0 h))

  pub scan_end : length text ≤ at → some f ≡ facts_in (parse text)
  unfolding whole
  scan_end h = sym (facts_of-parse text ∙ rw (L.same, drop_of_length-le text h))

module _ {B : Type 0} {whole : Get B} {text : List ℕ} {from : ℕ} where
  pub left_reach : {A : Type 0} {g : Get A} (f : A → Get B) {at : ℕ} {a : A} {c : ℕ} → Left whole text from (g ▷ f) at → Reached g text at (some (a, c)) → Left whole text from (f a) c
  left_reach f L t = record { same = L.same ∙ rw t.same; there = omega (arith, L.there, t.moved.0) }

  pub left_no_reach : {A : Type 0} {g : Get A} (f : A → Get B) {at : ℕ} → Left whole text from (g ▷ f) at → Reached g text at none → Told whole text from none
  left_no_reach f L t = record { same = L.same ∙ rw t.same; moved = tt }
