-- The readers of a Netpbm header and of a width line read what is printed, and nothing else.
use mathlib.Core.Path.{◌≡◌, refl}
use mathlib.Core.Bool.{Bool, true, false, cond}
use mathlib.Core.Option.{Option, none, some, none-ne-some, some-injective}
use mathlib.Core.List.{List, [], ◌++◌, append_assoc}
use Prim.Native.Nat.{ℕ, ◌≤◌}
use native.Mathlib.Omega.{arith}
use lib.Dec.{eqb}
use borrow.Author.Tests.{eqb-true}
use Rattle.grids.proofs.Shapes.{Any}
use Rattle.pictures.specs.Numbers.{largest_number}
use Rattle.pictures.specs.declared.sizes.Kind.{Kind}
use Rattle.pictures.specs.declared.sizes.Kind.TheVariants.{Grey, Rgb}
use Rattle.pictures.specs.declared.sizes.Size.{Size}
use Rattle.text_theory.specs.Readers.{Get, ◌▷◌, known}
use Rattle.text_theory.specs.Decimal.{digits, is_digit}
use Rattle.text_theory.specs.Files.{blank, line_end}
use Rattle.text_theory.proofs.Pairs.{Reads, strip_back, Sounds, give_sounds, after_sounds, then_sounds, soundly}
use Rattle.text_theory.proofs.Decimals.{clear, number_reads}
use Rattle.text_theory.proofs.Files.{clear-blank}
use Rattle.pictures.specs.Pictures.{largest_sample}
use Rattle.program_theory.specs.Netpbm.{letter_p, magic_of, header_text, kind_by, header_get}
use Rattle.program_theory.specs.Programs.{width_get}

-- The kind by its two numbers.
kind_by_back : (k : Kind) → kind_by (magic_of k) (largest_sample k) ≡ some k
unfolding kind_by
kind_by_back Grey = refl
kind_by_back Rgb = refl

kind_by-sound : (p m : ℕ) (k : Kind) → kind_by p m ≡ some k → (p ≡ magic_of k) × (m ≡ largest_sample k)
unfolding kind_by
kind_by-sound p m k h = go (eqb m 255) (eqb p 5) (eqb p 6) refl refl refl h
  where
    go : (x y z : Bool) → eqb m 255 ≡ x → eqb p 5 ≡ y → eqb p 6 ≡ z → cond x (cond y (some Grey) (cond z (some Rgb) none)) none ≡ some k
        → (p ≡ magic_of k) × (m ≡ largest_sample k)
    go true true z e f g h = rw (← some-injective Grey k h) (eqb-true p 5 f, eqb-true m 255 e)
    go true false true e f g h = rw (← some-injective Rgb k h) (eqb-true p 6 g, eqb-true m 255 e)
    go true false false e f g h = absurd (none-ne-some _ h)
    go false y z e f g h = absurd (none-ne-some _ h)

-- A value that is known, and what is read after it.
known_sounds : {A B : Type 0} {ok : B → Type 0} {put : B → List ℕ} {done : List ℕ} {f : A → Get B} (o : Option A)
    → ((a : A) → o ≡ some a → Sounds ok put done (f a)) → Sounds ok put done (known o ▷ f)
known_sounds none k = record { sounds = λ s r h. absurd (none-ne-some _ h) }
known_sounds (some a) k = k a refl

-- No digit stands after a number.
clear-end : (t : List ℕ) → clear (line_end ++ t)
unfolding line_end is_digit
clear-end t = refl

-- The numbers of a header that say its kind have the file's form.
magic_small : (k : Kind) → magic_of k ≤ largest_number
magic_small Grey = omega arith
magic_small Rgb = omega arith

maxval_small : (k : Kind) → largest_sample k ≤ largest_number
maxval_small Grey = omega arith
maxval_small Rgb = omega arith

-- The header, of a size whose numbers have the file's form, as the reader meets it.
abbrev pub Numbers : Size → Type 0
Numbers z = (z.width ≤ largest_number) × (z.height ≤ largest_number)

pub header_back : (z : Size) → z.width ≤ largest_number → z.height ≤ largest_number → (t : List ℕ) → header_get (header_text z ++ t) ≡ some (z, t)
unfolding header_get header_text
header_back z w h t =
    let n = number_reads largest_number in
    simp append_assoc
    (rw (
      strip_back,
      n.back (magic_of z.kind) (magic_small z.kind) _ (clear-end _),
      strip_back,
      n.back z.width w _ (clear-blank _),
      strip_back,
      n.back z.height h _ (clear-end _),
      strip_back,
      n.back (largest_sample z.kind) (maxval_small z.kind) _ (clear-end _),
      strip_back,
      kind_by_back z.kind,
    ))

header_sounds : Sounds Numbers header_text [] header_get
unfolding header_get header_text
header_sounds =
    let n = number_reads largest_number in
    after_sounds letter_p (then_sounds n λ p hp. after_sounds line_end (then_sounds n λ w hw. after_sounds blank (then_sounds n λ h hh.
    after_sounds line_end (then_sounds n λ m hm. after_sounds line_end (known_sounds (kind_by p m) λ k e.
    let q = kind_by-sound p m k e in give_sounds _ (rw (q.0, q.1) (simp append_assoc)) (hw, hh))))))

pub header_reads : Reads Numbers header_text Any header_get
header_reads = record { back = λ z b t u. header_back z b.0 b.1 t; sound = soundly header_sounds }

-- The line with a width.
pub width_back : (v : ℕ) → v ≤ largest_number → (t : List ℕ) → width_get (digits v ++ (line_end ++ t)) ≡ some (v, t)
unfolding width_get
width_back v l t = rw ((number_reads largest_number).back v l (line_end ++ t) (clear-end t), strip_back)

width_sounds : Sounds (λ v. v ≤ largest_number) (λ v. digits v ++ line_end) [] width_get
unfolding width_get
width_sounds = then_sounds (number_reads largest_number) λ v h. after_sounds line_end (give_sounds v refl h)

pub width_reads : Reads (λ v. v ≤ largest_number) (λ v. digits v ++ line_end) Any width_get
width_reads = record { back = λ v l t u. rw append_assoc (width_back v l t); sound = soundly width_sounds }
