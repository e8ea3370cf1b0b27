-- What is known of a file that 1 to 6 don't refuse.
use mathlib.Core.Path.{◌≡◌, refl, sym, ap, ◌∙◌}
use mathlib.Core.Bool.{true}
use mathlib.Core.Option.{Option, none, some, none-ne-some, some-injective}
use mathlib.Core.List.{List}
use Prim.Native.Nat.{ℕ}
use lib.ListN.{drop}
use Rattle.grids.specs.Each.{Each, Grid}
use Rattle.pictures.specs.Refusals.{refusal}
use Rattle.pictures.specs.Pictures.{side_rules, OfSize}
use Rattle.pictures.proofs.Limits.{Sides, sides_are}
use Rattle.map_theory.specs.Widths.{allowed}
use Rattle.text_theory.specs.declared.Head.{Head}
use Rattle.text_theory.specs.Files.{Parts, parse, text, head_get, Pixel, Within}
use Rattle.text_theory.proofs.Files.{parse-sound}
use Rattle.std.specs.Prelude as code
use Rattle.std.specs.Prelude.{IsSome}
use Rattle.text_read.specs.declared.cursor.Cursor.{Cursor}
use Rattle.text_read.specs.Answers.{Told, read}
use Rattle.text_read.proofs.Callers.{head_line}
use Rattle.file_theory.specs.Rules.{part_rules, form_rules}
use Rattle.file_theory.specs.Shows.{head_in, rows_in, maps_in}
use Rattle.file_theory.proofs.Shaped.{shaped_is, shaped_picture, allowed-of_size}
use Rattle.file_read.specs.Inner.Opening.{Open, rows_from}

-- The parts of a text with the head h.
abbrev pub parts_with : Head → Option Parts → Parts
parts_with h q = record { head = h; rows = rows_in q; maps = maps_in q }

-- Of a file with the head h: what 2 to 6 let through, and what its text says of its parts.
pub record Parsed (file : List ℕ) (h : Head) : Type 0 where
  pub parsed : parse file ≡ some (parts_with h (parse file))
  pub whole : text (parts_with h (parse file)) ≡ file
  pub within : Within (parts_with h (parse file))
  pub served : refusal (part_rules (parts_with h (parse file))) ≡ 0
  pub sides_served : refusal (side_rules h.size) ≡ 0
  pub sides : Sides h.size
  pub pixels : Each (Each (Pixel h.size.kind) h.size.width) h.size.height (rows_in (parse file))
  pub of_size : OfSize h.size (rows_in (parse file))
  pub maps_grid : Grid h.size.width h.size.height (maps_in (parse file))
  pub range : allowed h.size.width h.depth h.growth ≡ true

pub opened : (file : List ℕ) (h : Head) → Open file h → Parsed file h
opened file h o =
    let e : parse file ≡ some (parts_with h (parse file)) = go (parse file) o.head_is in
    let p : Parts = parts_with h (parse file) in
    let s : refusal (part_rules (parts_with h (parse file))) ≡ 0 = sym (ap (λ q. refusal (form_rules part_rules q)) e) ∙ o.sound in
    let t = parse-sound file p e in
    let k = (shaped_is p).0 s in
    let a = shaped_picture p t.1 k in
    record {
      parsed = e;
      whole = t.0;
      within = t.1;
      served = s;
      sides_served = k.sides;
      sides = sides_are h.size k.sides;
      pixels = a.pixels;
      of_size = allowed-of_size h.size (rows_in (parse file)) a;
      maps_grid = k.maps;
      range = k.range;
    }
  where
    same : (p : Parts) → head_in (some p) ≡ some h → p.head ≡ h
    same p q = some-injective p.head h q

    go : (q : Option Parts) → head_in q ≡ some h → q ≡ some (parts_with h q)
    go none e = absurd (none-ne-some _ e)
    go (some p) e = λ i. some (record { head = same p e i; rows = p.rows; maps = p.maps })

-- After the head stand the row lines.
module _ (file : List ℕ) (h : Head) (o : Open file h) where
  head_read_lem : head_get file ≡ some (h, rows_from h.size.kind (parse file) 0)
  unfolding text
  head_read_lem = let k = opened file h o in ap head_get (sym k.whole) ∙ head_line h (rows_from h.size.kind (parse file) 0) k.within.head

  pub head_place : (g : Head) (c : ℕ) → Told head_get file 0 (some (g, c)) → drop c file ≡ rows_from h.size.kind (parse file) 0
  head_place g c t = ap (λ (r : Head × List ℕ). r.1) (some-injective (g, drop c file) (h, rows_from h.size.kind (parse file) 0) (sym t.same ∙ head_read_lem))

  pub head_there : (a : code.Option (Head × Cursor)) → Told head_get file 0 (read a) → IsSome a
  head_there code.None t = absurd (none-ne-some _ (sym t.same ∙ head_read_lem))
  head_there (code.Some r) t = refl
