-- `parse` gives back the parts of which a text is made, and reads no other text.
use mathlib.Core.Path.{◌≡◌, refl, sym, ap, ◌∙◌}
use mathlib.Core.Bool.{Bool, true, false, cond}
use mathlib.Core.Option.{Option, none, some, none-ne-some}
use mathlib.Core.List.{List, [], ◌∷◌, ◌++◌, append_assoc, append-nil}
use Prim.Native.Nat.{ℕ, suc, ◌≤◌}
use native.Mathlib.Omega.{arith}
use lib.Dec.{eqb}
use lib.ListN.{length}
use borrow.Author.Tests.{eqb-true, eq-eqb}
use Rattle.text_theory.specs.Readers.{Get, give, ◌▷◌, strip, many}
use Rattle.text_theory.specs.Decimal.{digits, is_digit, number_get}
use Rattle.grids.proofs.Shapes.{Any}
use Rattle.pictures.specs.declared.sizes.Kind.{Kind}
use Rattle.pictures.specs.declared.sizes.Kind.TheVariants.{Grey, Rgb}
use Rattle.pictures.specs.Numbers.{largest_number}
use Rattle.pictures.specs.declared.sizes.Size.{Size}
use Rattle.energy.specs.declared.methods.EnergyRule.{EnergyRule}
use Rattle.text_theory.specs.declared.Head.{Head}
use Rattle.text_theory.specs.declared.Name.TheVariants as name
use Rattle.text_theory.specs.Files.{Parts, line_end, blank, opening, closing, closed, begun, row_word, map_word, each, joined, pixel_text, line_text, first_text, size_text, range_text, energy_text, head_text, text, items, three, pixel_get, line, size_get, range_get, energy_get, head_get, file, ended, whole, parse, All, Pixel, Numbers, Within}
use Rattle.text_theory.proofs.Pairs.{Reads, strip_back, on_inv, after_inv, Sounds, give_sounds, after_sounds, then_sounds, soundly}
use Rattle.text_theory.proofs.Many.{many_reads}
use Rattle.text_theory.proofs.Decimals.{clear, number_reads}
use Rattle.text_theory.proofs.Names.{kind_reads, rule_reads}

line_end_lem : closed ≡ closing ++ line_end
unfolding closed closing line_end
line_end_lem = refl

module _ {A : Type 0} {ok : A → Type 0} {put : A → List ℕ} {stop : List ℕ → Type 0} {g : Get A} (R : Reads ok put stop g) (again : (t : List ℕ) → stop (blank ++ t)) (last : (t : List ℕ) → stop (closing ++ t)) where
  M : Reads (All ok) (each blank put) (λ t. (strip blank t ≡ none) × stop t) (many blank g)
  unfolding blank
  M = many_reads R blank (omega arith) again

  no_blank : (t : List ℕ) → strip blank (closing ++ t) ≡ none
  unfolding strip blank closing
  no_blank t = refl

  pub items_reads : Reads (All ok) (λ xs. each blank put xs ++ closing) Any (items g)
  unfolding items
  items_reads = record {
    back = λ xs a t u. rw (append_assoc, M.back xs a (closing ++ t) (no_blank t, last t), strip_back);
    sound = soundly (then_sounds M λ xs h. after_sounds closing (give_sounds xs refl h));
  }

  pub line_reads : Reads (All ok) (line_text put) Any (line g)
  unfolding line line_text
  line_reads = record {
    back = λ xs a t u. rw (line_end_lem, ← append_assoc (each blank put xs) closing line_end, append_assoc, items_reads.back xs a (line_end ++ t) tt, strip_back);
    sound = soundly {put = line_text put} (then_sounds items_reads λ xs h. after_sounds line_end (give_sounds xs (rw line_end_lem (simp append_assoc)) h));
  }

pub clear-blank : (t : List ℕ) → clear (blank ++ t)
unfolding blank is_digit
clear-blank t = refl

pub clear-closing : (t : List ℕ) → clear (closing ++ t)
unfolding closing is_digit
clear-closing t = refl

samples_reads : Reads (All (λ (a : ℕ). a ≤ 255)) (λ xs. each blank digits xs ++ closing) Any (items (number_get 255))
samples_reads = items_reads (number_reads 255) clear-blank clear-closing

three_inv : (a : ℕ) (xs s : List ℕ) (r : List ℕ × List ℕ) → three a xs s ≡ some r → (length xs ≡ 2) × (r ≡ (a ∷ xs, s))
unfolding three
three_inv a xs s r h = go (eqb (length xs) 2) refl h
  where
    go : (x : Bool) → eqb (length xs) 2 ≡ x → cond x (give (a ∷ xs)) (λ s. none) s ≡ some r → (length xs ≡ 2) × (r ≡ (a ∷ xs, s))
    go true e h = (eqb-true _ 2 e, cc)
    go false e h = absurd (none-ne-some _ h)

clear-items : (xs t : List ℕ) → clear ((each blank digits xs ++ closing) ++ t)
unfolding each blank closing is_digit
clear-items [] t = refl
clear-items (a ∷ xs) t = refl

group : (a b c d t : List ℕ) → (a ++ ((b ++ c) ++ d)) ++ t ≡ a ++ (b ++ ((c ++ d) ++ t))
group a b c d t = simp append_assoc

grey_back : (px : List ℕ) → Pixel Grey px → (t : List ℕ) → clear t → pixel_get Grey (pixel_text Grey px ++ t) ≡ some (px, t)
unfolding pixel_get pixel_text joined each
grey_back [] h t c = let z = h.count in absurd (omega arith)
grey_back (a ∷ []) h t c = rw (append_assoc, (number_reads 255).back a h.small.0 t c)
grey_back (a ∷ b ∷ px) h t c = let z = h.count in absurd (omega arith)

grey-sound : (s : List ℕ) (r : List ℕ × List ℕ) → pixel_get Grey s ≡ some r → (s ≡ pixel_text Grey r.0 ++ r.1) × Pixel Grey r.0
unfolding pixel_get pixel_text joined each
grey-sound s r h =
    let p = on_inv (number_get 255 s) (λ a. give (a ∷ [])) r h in
    let m = (number_reads 255).sound s p.0 p.1 in
    let z : r ≡ (p.0.0 ∷ [], p.0.1) = cc p.2 in
    rw z (rw append_assoc m.0, record { count = refl; small = (m.1, tt) })

rgb_back : (px : List ℕ) → Pixel Rgb px → (t : List ℕ) → clear t → pixel_get Rgb (pixel_text Rgb px ++ t) ≡ some (px, t)
unfolding pixel_get pixel_text joined three
rgb_back [] h t c = let z = h.count in absurd (omega arith)
rgb_back (a ∷ px) h t c =
    let z = h.count in
    rw (group, strip_back, (number_reads 255).back a h.small.0 ((each blank digits px ++ closing) ++ t) (clear-items px t), samples_reads.back px h.small.1 t tt, eq-eqb (length px) 2 (omega arith))

rgb_sound : (s : List ℕ) (r : List ℕ × List ℕ) → pixel_get Rgb s ≡ some r → (s ≡ pixel_text Rgb r.0 ++ r.1) × Pixel Rgb r.0
unfolding pixel_get pixel_text joined
rgb_sound s r h =
    let o = after_inv opening (number_get 255 ▷ λ a. items (number_get 255) ▷ λ xs. three a xs) s r h in
    let p = on_inv (number_get 255 o.0) (λ a. items (number_get 255) ▷ λ xs. three a xs) r o.2 in
    let q = on_inv (items (number_get 255) p.0.1) (λ xs. three p.0.0 xs) r p.2 in
    let n = three_inv p.0.0 q.0.0 q.0.1 r q.2 in
    let l = (number_reads 255).sound o.0 p.0 p.1 in
    let m = samples_reads.sound p.0.1 q.0 q.1 in
    rw n.1 (rw group (cc (o.1, l.0, m.0)), record { count = ap suc n.0; small = (l.1, m.1) })

pub pixel_reads : (k : Kind) → Reads (Pixel k) (pixel_text k) clear (pixel_get k)
pixel_reads Grey = record { back = grey_back; sound = grey-sound }
pixel_reads Rgb = record { back = rgb_back; sound = rgb_sound }

pub rows_reads : (k : Kind) → Reads (All (All (Pixel k))) (each row_word (line_text (pixel_text k))) (λ t. (strip row_word t ≡ none) × Unit) (many row_word (line (pixel_get k)))
unfolding row_word begun opening
rows_reads k = many_reads (line_reads (pixel_reads k) clear-blank clear-closing) row_word (omega arith) (λ t. tt)

pub maps_reads : Reads (All (All (λ (a : ℕ). a ≤ largest_number))) (each map_word (line_text digits)) (λ t. (strip map_word t ≡ none) × Unit) (many map_word (line (number_get largest_number)))
unfolding map_word begun opening
maps_reads = many_reads (line_reads (number_reads largest_number) clear-blank clear-closing) map_word (omega arith) (λ t. tt)

no_map : (t : List ℕ) → strip map_word (closed ++ t) ≡ none
unfolding map_word begun opening closed strip
no_map t = refl

no_row : (ms : List (List ℕ)) (t : List ℕ) → strip row_word (each map_word (line_text digits) ms ++ (closed ++ t)) ≡ none
unfolding map_word row_word begun opening closed strip each
no_row [] t = refl
no_row (m ∷ ms) t = refl

pub clear-closed : (t : List ℕ) → clear (closed ++ t)
unfolding closed is_digit
clear-closed t = refl

-- The lines of the head.
pub record Sides (z : Size) : Type 0 where
  pub width : z.width ≤ largest_number
  pub height : z.height ≤ largest_number

size_back : (z : Size) → Sides z → (t : List ℕ) → size_get (size_text z ++ t) ≡ some (z, t)
unfolding size_get size_text
size_back z b t =
    let n = number_reads largest_number in
    simp append_assoc
    (rw (
      strip_back,
      strip_back,
      n.back z.width b.width _ (clear-blank _),
      strip_back,
      n.back z.height b.height _ (clear-blank _),
      strip_back,
      kind_reads.back z.kind tt _ tt,
      strip_back,
    ))

size_sounds : Sounds Sides size_text [] size_get
unfolding size_get size_text
size_sounds =
    let n = number_reads largest_number in
    after_sounds (begun name.Size) (after_sounds blank (then_sounds n λ w hw. after_sounds blank (then_sounds n λ h hh. after_sounds blank (then_sounds kind_reads λ k hk.
    after_sounds closed (give_sounds _ (simp append_assoc) (record { width = hw; height = hh }))))))

pub size_reads : Reads Sides size_text Any size_get
size_reads = record { back = λ z b t u. size_back z b t; sound = soundly size_sounds }

range_back : (d g : ℕ) → d ≤ largest_number → g ≤ largest_number → (t : List ℕ) → range_get (range_text d g ++ t) ≡ some ((d, g), t)
unfolding range_get range_text
range_back d g p q t =
    let n = number_reads largest_number in
    simp append_assoc (rw (strip_back, strip_back, n.back d p _ (clear-blank _), strip_back, n.back g q _ (clear-closed _), strip_back))

abbrev Ranged : ℕ × ℕ → Type 0
Ranged r = (r.0 ≤ largest_number) × (r.1 ≤ largest_number)

range_sounds : Sounds Ranged (λ r. range_text r.0 r.1) [] range_get
unfolding range_get range_text
range_sounds =
    let n = number_reads largest_number in
    after_sounds (begun name.Range) (after_sounds blank (then_sounds n λ d hd. after_sounds blank (then_sounds n λ g hg.
    after_sounds closed (give_sounds _ (simp append_assoc) (hd, hg)))))

pub range_reads : Reads Ranged (λ r. range_text r.0 r.1) Any range_get
range_reads = record { back = λ r b t u. range_back r.0 r.1 b.0 b.1 t; sound = soundly range_sounds }

energy_back : (e : EnergyRule) (t : List ℕ) → energy_get (energy_text e ++ t) ≡ some (e, t)
unfolding energy_get energy_text
energy_back e t = simp append_assoc (rw (strip_back, strip_back, rule_reads.back e tt _ tt, strip_back))

energy_sounds : Sounds (λ e. Unit) energy_text [] energy_get
unfolding energy_get energy_text
energy_sounds =
    after_sounds (begun name.Energy) (after_sounds blank (then_sounds rule_reads λ e he. after_sounds closed (give_sounds _ (simp append_assoc) tt)))

pub energy_reads : Reads (λ e. Unit) energy_text Any energy_get
energy_reads = record { back = λ e b t u. energy_back e t; sound = soundly energy_sounds }

-- The text as the reader meets it, line after line.
head_back : (h : Head) → Numbers h → (t : List ℕ) → head_get (head_text h ++ t) ≡ some (h, t)
unfolding head_get head_text
head_back h b t =
    simp append_assoc
    (rw (
      strip_back,
      size_reads.back h.size (record { width = b.width; height = b.height }) _ tt,
      range_reads.back (h.depth, h.growth) (b.depth, b.growth) _ tt,
      energy_reads.back h.method.energy tt _ tt,
    ))

head_sounds : Sounds Numbers head_text [] head_get
unfolding head_get head_text
head_sounds =
    after_sounds first_text (then_sounds size_reads λ z hz. then_sounds range_reads λ r hr. then_sounds energy_reads λ e he.
    give_sounds _ (simp append_assoc) (record { width = hz.width; height = hz.height; depth = hr.0; growth = hr.1 }))

pub head_reads : Reads Numbers head_text Any head_get
head_reads = record { back = λ h b t u. head_back h b t; sound = soundly head_sounds }

file_back : (p : Parts) → Within p → (t : List ℕ) → file (text p ++ t) ≡ some (p, t)
unfolding file text
file_back p h t =
    simp append_assoc
    (rw (
      head_reads.back p.head h.head _ tt,
      (rows_reads p.head.size.kind).back p.rows h.rows _ (no_row p.maps t, tt),
      maps_reads.back p.maps h.maps _ (no_map t, tt),
      strip_back,
    ))

file_sounds : Sounds Within text [] file
unfolding file text
file_sounds =
    then_sounds head_reads λ h hh. then_sounds (rows_reads h.size.kind) λ rows hr. then_sounds maps_reads λ maps hm.
    after_sounds closed (give_sounds _ (simp append_assoc) (record { head = hh; rows = hr; maps = hm }))

-- (1) The parts of a text come back.
pub parse-text : (p : Parts) → Within p → parse (text p) ≡ some p
unfolding parse whole
parse-text p h = rw (rw append-nil at (file_back p h []))

-- (2) What is read is the text of what was read, and that is within the ranges.
pub parse-sound : (s : List ℕ) (p : Parts) → parse s ≡ some p → (text p ≡ s) × Within p
unfolding parse whole
parse-sound s p h = go (file s) refl h
  where
    last : (r : Parts × List ℕ) (t : List ℕ) → r.1 ≡ t → file s ≡ some r → ended t r.0 ≡ some p → (text p ≡ s) × Within p
    last r [] e f h =
        let m = file_sounds.sounds s r f in
        let z : p ≡ r.0 = cc in
        rw z (sym (m.0 ∙ rw (e, append-nil)), m.1)
    last r (b ∷ t) e f h = absurd (none-ne-some _ h)

    go : (o : Option (Parts × List ℕ)) → file s ≡ o → whole o ≡ some p → (text p ≡ s) × Within p
    go none e h = absurd (none-ne-some _ h)
    go (some r) e h = last r r.1 refl e h

-- What is read begins with the lines of its size, range and energy.
pub parse_head : (s : List ℕ) (p : Parts) → parse s ≡ some p → (t : List ℕ) × (head_get s ≡ some (p.head, t))
unfolding text
parse_head s p h =
    let r = parse-sound s p h in
    let t : List ℕ = each row_word (line_text (pixel_text p.head.size.kind)) p.rows ++ (each map_word (line_text digits) p.maps ++ closed) in
    (t, ap head_get (sym r.0) ∙ head_reads.back p.head r.1.head t tt)

-- So no text belongs to two parts.
pub text_injective : (p q : Parts) → Within p → Within q → text p ≡ text q → p ≡ q
text_injective p q h k e = let a = parse-text p h in let b = parse-text q k in cc (ap parse e)
