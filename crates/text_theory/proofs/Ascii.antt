-- "ASCII text": every byte of a text is below 128.
use mathlib.Core.Path.{◌≡◌, refl, sym, ◌∙◌}
use mathlib.Core.Bool.{Bool, true, false, ◌&&◌, cond, and_assoc}
use mathlib.Core.List.{List, [], ◌∷◌, ◌++◌}
use Prim.Native.Nat.{ℕ, zero, suc, ◌+◌, ◌/◌, ◌%◌, ◌<◌}
use native.Mathlib.Nat.{mod-lt}
use native.Mathlib.Omega.{arith}
use lib.Dec.{ltb}
use borrow.Author.Tests.{ltb-true, lt-ltb}
use Rattle.grids.proofs.Bools.{both}
use Rattle.pictures.specs.declared.sizes.Kind.{Kind}
use Rattle.pictures.specs.declared.sizes.Kind.TheVariants.{Grey, Rgb}
use Rattle.energy.specs.declared.methods.EnergyRule.{EnergyRule}
use Rattle.text_theory.specs.declared.Head.{Head}
use Rattle.text_theory.specs.declared.Name.{Name}
use Rattle.text_theory.specs.declared.Name.TheVariants as name
use Rattle.text_theory.proofs.Names.{each_name}
use Rattle.text_theory.specs.Words.{name_text, kind_name, kind_text, rule_name, rule_text}
use Rattle.text_theory.specs.Decimal.{digits_up_to, digits}
use Rattle.text_theory.specs.Files.{Parts, blank, line_end, opening, closing, closed, begun, row_word, map_word, each, joined, pixel_text, line_text, first_text, size_text, range_text, energy_text, head_text, text, All}

-- As a test that computes.
abbrev ascii : List ℕ → Bool
ascii [] = true
ascii (b ∷ s) = ltb b 128 && ascii s

ascii_append : (s t : List ℕ) → ascii (s ++ t) ≡ (ascii s && ascii t)
ascii_append [] t = refl
ascii_append (c ∷ s) t = rw (ascii_append s t) (sym (and_assoc (ltb c 128) (ascii s) (ascii t)))

ascii-one : (b : ℕ) → b < 128 → ascii (b ∷ []) ≡ true
ascii-one b h = rw (lt-ltb b 128 h)

ascii-up_to : (k n : ℕ) → ascii (digits_up_to k n) ≡ true
unfolding digits_up_to
ascii-up_to zero n = refl
ascii-up_to (suc k) n = go (ltb n 10) refl (ascii-up_to k (n / 10))
  where
    go : (t : Bool) → ltb n 10 ≡ t → ascii (digits_up_to k (n / 10)) ≡ true → ascii (cond t ((48 + n) ∷ []) (digits_up_to k (n / 10) ++ (48 + n % 10) ∷ [])) ≡ true
    go true e a = ascii-one (48 + n) (omega (arith, ltb-true n 10 e))
    go false e a = ascii_append (digits_up_to k (n / 10)) ((48 + n % 10) ∷ []) ∙ rw (a, ascii-one (48 + n % 10) (omega (arith, mod-lt n {m = 10} (omega arith))))

ascii-digits : (n : ℕ) → ascii (digits n) ≡ true
unfolding digits
ascii-digits n = ascii-up_to (suc n) n

ascii-each : {A : Type 0} (w : List ℕ) (put : A → List ℕ) → ascii w ≡ true → ((a : A) → ascii (put a) ≡ true) → (xs : List A) → ascii (each w put xs) ≡ true
unfolding each
ascii-each w put a h [] = refl
ascii-each w put a h (x ∷ xs) = simp (ascii_append, a, h, ascii-each w put a h xs)

ascii-joined : (xs : List ℕ) → ascii (joined xs) ≡ true
unfolding joined blank
ascii-joined [] = refl
ascii-joined (a ∷ xs) = simp (ascii_append, ascii-digits, ascii-each blank digits refl ascii-digits xs)

ascii_name : (n : Name) → ascii (name_text n) ≡ true
ascii_name = each_name (λ n. ascii (name_text n)) refl

ascii-begun : (n : Name) → ascii (begun n) ≡ true
unfolding begun opening
ascii-begun n = ascii_name n

ascii_kind : (k : Kind) → ascii (kind_text k) ≡ true
unfolding kind_text
ascii_kind k = ascii_name (kind_name k)

ascii_rule : (e : EnergyRule) → ascii (rule_text e) ≡ true
unfolding rule_text
ascii_rule e = ascii_name (rule_name e)

ascii-pixel : (k : Kind) (px : List ℕ) → ascii (pixel_text k px) ≡ true
unfolding pixel_text opening closing
ascii-pixel Grey px = ascii-joined px
ascii-pixel Rgb px = simp (ascii_append, ascii-joined)

ascii-line : {A : Type 0} (put : A → List ℕ) → ((a : A) → ascii (put a) ≡ true) → (xs : List A) → ascii (line_text put xs) ≡ true
unfolding line_text blank closed
ascii-line put h xs = simp (ascii_append, ascii-each blank put refl h xs)

ascii_head : (h : Head) → ascii (head_text h) ≡ true
unfolding head_text first_text size_text range_text energy_text line_end blank closed
ascii_head h = simp (ascii_append, ascii-begun, ascii-digits, ascii_kind, ascii_rule)

ascii-text : (p : Parts) → ascii (text p) ≡ true
unfolding text row_word map_word closed
ascii-text p =
    let k : Kind = p.head.size.kind in
    let rows = ascii-each row_word (line_text (pixel_text k)) (ascii-begun name.Row) (ascii-line (pixel_text k) (ascii-pixel k)) p.rows in
    let maps = ascii-each map_word (line_text digits) (ascii-begun name.Map) (ascii-line digits ascii-digits) p.maps in
    simp (ascii_append, ascii_head, rows, maps)

pub text-ascii : (p : Parts) → All (λ (b : ℕ). b < 128) (text p)
text-ascii p = all (text p) (ascii-text p)
  where
    all : (s : List ℕ) → ascii s ≡ true → All (λ (b : ℕ). b < 128) s
    all [] e = tt
    all (b ∷ s) e =
        let q = both (ltb b 128) (ascii s) e in
        (ltb-true b 128 q.0, all s q.1)
