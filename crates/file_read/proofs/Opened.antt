-- A file opened: what scanning a text tells of its parts, and which of 1 to 6 is given.
use mathlib.Core.Path.{◌≡◌, refl, sym, ap, ◌∙◌}
use mathlib.Core.Bool.{Bool, true, false, not, ◌&&◌}
use mathlib.Core.Option.{Option, none, some, none-ne-some, some-injective}
use mathlib.Core.List.{List, [], ◌∷◌, map}
use Prim.Native.Nat.{ℕ}
use lib.Dec.{eqb}
use lib.ListN.{length}
use Rattle.pictures.specs.declared.refusals.Refusal.{Refusal}
use Rattle.std.specs.Prelude.{Result, Err}
use Rattle.pictures.specs.Refusals.{◌when◌, Rule, number_of, given, refusal}
use Rattle.pictures.specs.Pictures.{side_rules}
use Rattle.pictures.proofs.Rules.{served-first, refused_answer}
use Rattle.map_theory.specs.Widths.{allowed}
use Rattle.map_theory.specs.Judged.{every}
use Rattle.text_theory.specs.Files.{Parts, parse}
use Rattle.text_scan.specs.declared.Facts.{Facts}
use Rattle.grids.proofs.Bools.{and_swap}
use Rattle.text_scan.specs.Facts.{evenly, facts_of, facts_in}
use Rattle.file_theory.specs.Rules.{filled, part_rules, form_rules}
use Rattle.file_read.specs.Inner.Opening.{Open}

-- Whether all rows are as long as the width says: said of their lengths, and of the rows.
even_rows : {A : Type 0} (w : ℕ) (rows : List (List A)) → evenly w (map length rows) ≡ every (λ xs. eqb (length xs) w) rows
unfolding evenly
even_rows w [] = refl
even_rows w (x ∷ rows) = ap (λ t. eqb (length x) w && t) (even_rows w rows)

-- As many lines as the height says, each as wide as the width says.
abbrev pub counts_of : Facts → Bool
counts_of f = eqb f.rows f.head.size.height && (eqb f.maps f.head.size.height && f.full)

abbrev both : Parts → Bool
both p = filled p.head.size.width p.head.size.height p.rows && filled p.head.size.width p.head.size.height p.maps

counts-filled : (p : Parts) → counts_of (facts_of p) ≡ both p
unfolding facts_of filled
counts-filled p =
    let w = p.head.size.width in
    let h = p.head.size.height in
    rw (even_rows w p.rows, even_rows w p.maps) (and_swap (eqb (length p.rows) h) (eqb (length p.maps) h) (every (λ xs. eqb (length xs) w) p.rows) (every (λ xs. eqb (length xs) w) p.maps))

pub facts-some : (o : Option Parts) (f : Facts) → some f ≡ facts_in o → (p : Parts) × (o ≡ some p) × (f ≡ facts_of p)
facts-some none f e = absurd (none-ne-some _ (sym e))
facts-some (some p) f e = (p, refl, some-injective f (facts_of p) e)

module _ (file : List ℕ) (f : Facts) (told : some f ≡ facts_in (parse file)) where
  abbrev parts : Parts
  parts = (facts-some (parse file) f told).0

  parsed : parse file ≡ some parts
  parsed = (facts-some (parse file) f told).1

  facts : f ≡ facts_of parts
  facts = (facts-some (parse file) f told).2

  same_head : f.head ≡ parts.head
  unfolding facts_of
  same_head = ap (λ g. g.head) facts

  abbrev more : List Rule
  more = 4 when not (both parts) ∷ 6 when not (allowed parts.head.size.width parts.head.depth parts.head.growth) ∷ []

  refused : (n : ℕ) → n ≡ refusal (part_rules parts) → n ≡ refusal (form_rules part_rules (parse file))
  refused n e = rw parsed e

  pub open_sides : {A : Type 0} (v : Result A Refusal) (why : Refusal) → v ≡ Err why → given v ≡ refusal (side_rules f.head.size) → number_of why ≡ refusal (form_rules part_rules (parse file))
  open_sides v why is e =
      refused (number_of why) (sym (ap given is) ∙ refused_answer v why is (side_rules parts.head.size) more (e ∙ ap (λ h. refusal (side_rules h.size)) same_head))

  module _ (sides : refusal (side_rules f.head.size) ≡ 0) where
    rest : refusal (part_rules parts) ≡ refusal more
    rest = served-first (side_rules parts.head.size) more refl (sym (ap (λ h. refusal (side_rules h.size)) same_head) ∙ sides)

    counts : (t : Bool) → counts_of f ≡ t → both parts ≡ t
    counts t e = sym (counts-filled parts) ∙ sym (ap counts_of facts) ∙ e

    range : (t : Bool) → allowed f.head.size.width f.head.depth f.head.growth ≡ t → allowed parts.head.size.width parts.head.depth parts.head.growth ≡ t
    range t e = sym (ap (λ h. allowed h.size.width h.depth h.growth) same_head) ∙ e

    pub open-counts : counts_of f ≡ false → 4 ≡ refusal (form_rules part_rules (parse file))
    open-counts e = refused 4 (sym (rest ∙ rw (counts false e)))

    pub open-range : counts_of f ≡ true → allowed f.head.size.width f.head.depth f.head.growth ≡ false → 6 ≡ refusal (form_rules part_rules (parse file))
    open-range e a = refused 6 (sym (rest ∙ rw (counts true e, range false a)))

    pub open-served : counts_of f ≡ true → allowed f.head.size.width f.head.depth f.head.growth ≡ true → Open file f.head
    open-served e a = record {
      sound = sym (refused 0 (sym (rest ∙ rw (counts true e, range true a))));
      head_is = rw parsed (ap some (sym same_head));
    }
