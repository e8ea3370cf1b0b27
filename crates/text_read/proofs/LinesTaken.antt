-- A line read into a space in two passes: what the first counts, the second writes.
use mathlib.Core.Path.{◌≡◌, refl, sym, ap, subst, ◌∙◌}
use mathlib.Core.Option.{Option, none, some, none-ne-some, some-injective}
use mathlib.Core.List.{List, ◌++◌, append_assoc, map}
use Rattle.std.proofs.lemmas.List.{map-id, map-append, drop-map, length-take}
use Prim.Native.Nat.{ℕ, zero, suc, ◌*◌, ◌/◌, ◌≤◌, ◌<◌}
use native.Mathlib.Nat.{div-add-mod', mod-lt}
use native.Mathlib.Omega.{arith}
use lib.ListN.{length, take, drop, length-map}
use borrow.Author.Tests.{le-leb, lt-leb}
use Rattle.grids.specs.Rows.{flat}
use Rattle.pictures.specs.declared.sizes.Kind.{Kind}
use Rattle.pictures.specs.declared.sizes.Kind.TheVariants.{Grey, Rgb}
use Rattle.pictures.specs.Pictures.{channels_of}
use Rattle.pictures.specs.Numbers.{largest_number}
use Rattle.text_theory.specs.Readers.{Get, give, on, strip}
use Rattle.text_theory.specs.Decimal.{digits, number_get}
use Rattle.text_theory.specs.declared.Name.{Name}
use Rattle.text_theory.specs.declared.Name.TheVariants as name
use Rattle.text_theory.specs.Files.{blank, each, begun, closed, row_word, map_word, pixel_text, line_text, pixel_get, line}
use Rattle.text_theory.proofs.Decimals.{number_reads}
use Rattle.text_theory.proofs.Files.{line_reads, pixel_reads, clear-blank, clear-closing, clear-closed}
use Rattle.text_rules.specs.declared.Items.{Items}
use Rattle.text_rules.specs.declared.Items.TheVariants.{Samples, Pixels, Numbers}
use Rattle.text_read.specs.Answers.{Told, counted, beginning, line_rest}
use Rattle.text_read.specs.Lines.{row_line, map_line, fitting, Taken}
use Rattle.text_read.specs.Inner.{figures, Coming, limit_of, numbers_of, values_get, line_of}
use Rattle.text_rules.specs.Items.{items_of}
use Rattle.text_read.proofs.ByteClasses.{told_as}
use Rattle.text_read.proofs.Onward.{passing-some, passing-none, told_begun}
use Rattle.text_read.proofs.LineCounts.{rest-map, rest-row}
use Rattle.text_read.proofs.LineSteps.{Stand, stand-coming, stand-figures, closed_stand, numbers_stand, row_stand, row_count_lem}

-- What the first pass knows: m values are read from the place on, and their numbers stand after the word.
pub record Found (get : Get (List ℕ)) (limit : ℕ) (text : List ℕ) (at word m end : ℕ) : Type 0 where
  pub values : List ℕ
  pub same : get (drop at text) ≡ some (values, drop end text)
  pub stand : Stand limit (drop end text) values (drop word text)
  pub count : length values ≡ m
  pub moved : (at < end) × (end ≤ length text)

module _ {get : Get (List ℕ)} {text : List ℕ} {at : ℕ} {out : List ℕ} where
  torn : get (drop at text) ≡ none → Taken get text at out none out
  unfolding fitting counted
  torn e = record { told = record { same = rw e; moved = tt }; space = rw e }

  module _ {limit word m end : ℕ} (F : Found get limit text at word m end) where
    pub found-long : length out < m → Taken get text at out none out
    unfolding fitting counted
    found-long h =
        let l = lt-leb (length F.values) (length out) (omega (arith, F.count)) in
        record { told = record { same = rw (F.same, l); moved = tt }; space = rw (F.same, l) }

    pub found-fits : limit ≤ largest_number → m ≤ length out → {out' : List ℕ} → out' ≡ figures m (drop word text) ++ drop m out → Taken get text at out (some (m, end)) out'
    unfolding fitting counted
    found-fits small h e =
        let l = le-leb (length F.values) (length out) (omega (arith, F.count)) in
        let f = stand-figures limit small F.stand in
        record { told = record { same = rw (F.same, l, F.count); moved = F.moved }; space = e ∙ rw (F.same, l, ← F.count, f) }

pub found_coming : {get : Get (List ℕ)} {limit : ℕ} {text : List ℕ} {at word m end : ℕ} → Found get limit text at word m end → limit ≤ largest_number → Coming limit m (drop word text)
found_coming {limit = limit} F small = rw F.count at (stand-coming limit small F.stand)

-- What is counted is read.
counted_inv : {A : Type 0} (o : Option (List A × List ℕ)) (n : ℕ) (s : List ℕ) → on o (λ xs. give (length xs)) ≡ some (n, s) → (xs : List A) × (o ≡ some (xs, s)) × (length xs ≡ n)
counted_inv none n s h = absurd (none-ne-some _ h)
counted_inv (some r) n s h =
    let e = some-injective (length r.0, r.1) (n, s) h in
    (r.0, ap (λ (q : ℕ × List ℕ). some (r.0, q.1)) e, ap (λ (q : ℕ × List ℕ). q.0) e)

none_inv : {A : Type 0} (o : Option (List A × List ℕ)) → on o (λ xs. give (length xs)) ≡ none → o ≡ none
none_inv none h = refl
none_inv (some r) h = absurd (none-ne-some _ (sym h))

-- The items of a line that has m of them: its values, and that they stand in its text.
record Values (what : Items) (s : List ℕ) (m : ℕ) (t : List ℕ) : Type 0 where
  pub values : List ℕ
  pub same : values_get what s ≡ some (values, t)
  pub stand : Stand (limit_of what) t values s
  pub count : length values ≡ m * numbers_of what

pub stand_is : {limit : ℕ} {t xs s u : List ℕ} → s ≡ u → Stand limit t xs u → Stand limit t xs s
stand_is {limit} {t} {xs} e h = let P : List ℕ → Type 0 = λ v. Stand limit t xs v in subst P (sym e) h

module _ (k : Kind) (s : List ℕ) where
  row_none : line_rest (items_of k) s ≡ none → line (pixel_get k) s ≡ none
  row_none h = none_inv (line (pixel_get k) s) (sym (rest-row k s) ∙ h)

  row_some : (m : ℕ) (t : List ℕ) → line_rest (items_of k) s ≡ some (m, t)
      → (row : List (List ℕ)) × (line (pixel_get k) s ≡ some (row, t)) × Stand 255 t (flat row) s × (length (flat row) ≡ m * channels_of k)
  unfolding line_text
  row_some m t h =
      let p = counted_inv (line (pixel_get k) s) m t (sym (rest-row k s) ∙ h) in
      let z = (line_reads (pixel_reads k) clear-blank clear-closing).sound s (p.0, t) p.1 in
      (p.0, p.1, stand_is (z.0 ∙ append_assoc (each blank (pixel_text k) p.0) closed t) (row_stand t k p.0 (closed ++ t) z.1 (clear-closed t) (closed_stand 255 t)), row_count_lem k p.0 z.1 ∙ rw p.2 refl)

values_none : (what : Items) (s : List ℕ) → line_rest what s ≡ none → values_get what s ≡ none
values_none Samples s h = rw (row_none Grey s h)
values_none Pixels s h = rw (row_none Rgb s h)
values_none Numbers s h = none_inv (line (number_get largest_number) s) (sym (rest-map s) ∙ h)

values_some : (what : Items) (s : List ℕ) (m : ℕ) (t : List ℕ) → line_rest what s ≡ some (m, t) → Values what s m t
unfolding line_text
values_some Samples s m t h = let r = row_some Grey s m t h in record { values = flat r.0; same = rw r.1; stand = r.2; count = r.3 }
values_some Pixels s m t h = let r = row_some Rgb s m t h in record { values = flat r.0; same = rw r.1; stand = r.2; count = r.3 }
values_some Numbers s m t h =
    let p = counted_inv (line (number_get largest_number) s) m t (sym (rest-map s) ∙ h) in
    let z = (line_reads (number_reads largest_number) clear-blank clear-closing).sound s (p.0, t) p.1 in
    record { values = p.0; same = p.1; stand = stand_is (z.0 ∙ append_assoc (each blank digits p.0) closed t) (numbers_stand t largest_number p.0 (closed ++ t) z.1 (clear-closed t) (closed_stand largest_number t)); count = p.2 ∙ omega arith }

-- Room for m items, in numbers.
pub items_fit : (what : Items) (each m len : ℕ) → each ≡ numbers_of what → m ≤ len / each → m * each ≤ len
items_fit Samples each m len e h = rw e (omega (arith, div-add-mod' len 1, rw e at h))
items_fit Pixels each m len e h = rw e (omega (arith, div-add-mod' len 3, rw e at h))
items_fit Numbers each m len e h = rw e (omega (arith, div-add-mod' len 1, rw e at h))

pub items_over : (what : Items) (each m len : ℕ) → each ≡ numbers_of what → len / each < m → len < m * each
items_over Samples each m len e h = rw e (omega (arith, div-add-mod' len 1, mod-lt len {m = 1} (omega arith), rw e at h))
items_over Pixels each m len e h = rw e (omega (arith, div-add-mod' len 3, mod-lt len {m = 3} (omega arith), rw e at h))
items_over Numbers each m len e h = rw e (omega (arith, div-add-mod' len 1, mod-lt len {m = 1} (omega arith), rw e at h))

pub limit_small : (what : Items) → limit_of what ≤ largest_number
limit_small Samples = omega arith
limit_small Pixels = omega arith
limit_small Numbers = omega arith

-- More is allowed of numbers that come.
coming_more : {small large : ℕ} → small ≤ large → (n : ℕ) (s : List ℕ) → Coming small n s → Coming large n s
coming_more l zero s c = tt
coming_more l (suc n) s c = (c.0, c.1, omega (arith, c.2), coming_more l n c.0.1 c.3)

-- A line of this name: its word is missing, or its items are, or it is found, and its numbers are kept in out if they fit.
module _ (n : Name) (what : Items) {text : List ℕ} {at : ℕ} where
  pub line_no_word : {out : List ℕ} → Told (beginning n) text at none → Taken (line_of n what) text at out none out
  line_no_word t = torn (rw (passing-none (begun n) (drop at text) (told_begun n t).same))

  module _ {v c : ℕ} (t : Told (beginning n) text at (some (v, c))) where
    word : strip (begun n) (drop at text) ≡ some (drop c text)
    word = passing-some (begun n) (drop at text) v (drop c text) (told_begun n t).same

    pub line_torn : {out : List ℕ} → Told (line_rest what) text c none → Taken (line_of n what) text at out none out
    line_torn r = torn (rw word (values_none what (drop c text) r.same))

    module _ {m d : ℕ} (r : Told (line_rest what) text c (some (m, d))) where
      line_found : Found (line_of n what) (limit_of what) text at c (m * numbers_of what) d
      line_found =
          let p = values_some what (drop c text) m (drop d text) r.same in
          record { values = p.values; same = rw word p.same; stand = p.stand; count = p.count; moved = (omega (arith, t.moved.0, r.moved.0), r.moved.1) }

      module _ {T : Type 0} (value : T → ℕ) (out : List T) {each : ℕ} (e : each ≡ numbers_of what) where
        pub kept_long : length out / each < m → Taken (line_of n what) text at (map value out) none (map value out)
        kept_long h = found-long line_found (rw (length-map, ← e) (items_over what each m (length out) e h))

        module _ (h : m ≤ length out / each) where
          fit : length (take (m * each) out) ≡ m * numbers_of what
          fit = let k = items_fit what each m (length out) e h in length-take (m * each) out ∙ rw (← e) (omega arith)

          pub kept_coming : {limit : ℕ} → limit_of what ≤ limit → Coming limit (length (take (m * each) out)) (drop c text)
          kept_coming l = rw fit (coming_more l (m * numbers_of what) (drop c text) (found_coming line_found (limit_small what)))

          pub kept_fits : (new : List T) → map value new ≡ figures (length (take (m * each) out)) (drop c text)
              → Taken (line_of n what) text at (map value out) (some (m * each, d)) (map value (new ++ drop (m * each) out))
          kept_fits new k =
              let fits : m * numbers_of what ≤ length (map value out) = rw (length-map, ← e) (items_fit what each m (length out) e h) in
              rw e
              (found-fits line_found (limit_small what) fits
              (map-append value new (drop (m * numbers_of what) out) ∙ rw (k, fit, drop-map value (m * numbers_of what) out) refl))

-- A line that reads alike is taken alike, into a space whose numbers are what they are.
pub taken_as : {g k : Get (List ℕ)} {text : List ℕ} {at : ℕ} {found : Option (ℕ × ℕ)} (out out' : List ℕ) → ((s : List ℕ) → g s ≡ k s)
    → Taken g text at (map (λ x. x) out) found (map (λ x. x) out') → Taken k text at out found out'
unfolding fitting counted
taken_as {g} {text = text} {at} {found} out out' e t =
    let u : Taken g text at out found out' = rw (map-id out, map-id out') at t in
    record { told = told_as (λ s. rw (e s)) u.told; space = u.space ∙ rw (e (drop at text)) refl }

-- The lines of rows and of maps are such.
pub row_of : (k : Kind) (s : List ℕ) → line_of name.Row (items_of k) s ≡ row_line k s
unfolding row_line row_word
row_of Grey s = refl
row_of Rgb s = refl

pub map_of : (s : List ℕ) → line_of name.Map Numbers s ≡ map_line s
unfolding map_line map_word
map_of s = refl
