-- The numbers of what scanning answers: 1 just where the text, or a line of it, breaks its form.
use mathlib.Core.Path.{◌≡◌, refl, sym}
use mathlib.Core.Bool.{Bool, cond}
use mathlib.Core.Option.{Option, none, some, none-ne-some}
use mathlib.Core.List.{List}
use Rattle.std.specs.Prelude as code
use Prim.Native.Nat.{ℕ}
use lib.ListN.{drop}
use Rattle.pictures.specs.Refusals.{refusal, SmallestGiven}
use Rattle.pictures.proofs.Rules.{given-smallest}
use Rattle.text_theory.specs.Readers.{Get, answered}
use Rattle.text_theory.specs.Files.{Parts, parse}
use Rattle.text_read.specs.Numbers.{unread, missing, reader_rules}
use Rattle.text_read.proofs.Numbers.{missing-number}
use Rattle.text_scan.specs.declared.Facts.{Facts}
use Rattle.text_scan.specs.Facts.{facts_in, scan_number, scan_rules}
use Rattle.text_scan.specs.Inner.{Reached}

pub scan_number_lem : (text : List ℕ) (r : code.Option Facts) → answered r ≡ facts_in (parse text) → scan_number r ≡ refusal (scan_rules text)
scan_number_lem text r = go (parse text) r
  where
    go : (o : Option Parts) (r : code.Option Facts) → answered r ≡ facts_in o → scan_number r ≡ cond (unread o) 1 0
    go none (code.Some f) e = absurd (none-ne-some _ (sym e))
    go none code.None e = refl
    go (some p) (code.Some f) e = refl
    go (some p) code.None e = absurd (none-ne-some _ e)

pub scan_smallest : (text : List ℕ) → SmallestGiven (scan_rules text)
scan_smallest text = given-smallest _ refl

pub lines_number_lem : (get : Get (ℕ × Bool)) (text : List ℕ) (at : ℕ) (found : Option ((ℕ × Bool) × ℕ)) → Reached get text at found → missing found ≡ refusal (reader_rules get text at)
lines_number_lem get text at found t = missing-number text (get (drop at text)) found t.same
