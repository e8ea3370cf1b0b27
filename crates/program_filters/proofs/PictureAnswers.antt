-- The picture that a file shows, in the spaces of the programs.
use mathlib.Core.Path.{◌≡◌, refl, sym, ap, ap₂, ◌∙◌}
use mathlib.Core.Bool.{true}
use mathlib.Core.Option.{Option, none, some, none-ne-some, some-injective}
use mathlib.Core.List.{List, ◌++◌}
use Prim.Native.Nat.{ℕ, ◌*◌, ◌≤◌}
use native.Mathlib.Nat.{mul_assoc, mul-le-mul}
use native.Mathlib.Omega.{arith}
use lib.ListN.{length, take, drop, length-append}
use lib.Seq.{take_at}
use Rattle.grids.specs.Each.{Each}
use Rattle.grids.proofs.Shapes.{each_weaken}
use Rattle.pictures.specs.Limits.{most_side}
use Rattle.std.specs.Prelude.{Ok, Err, Some}
use Rattle.pictures.specs.declared.sizes.Kind.{Kind}
use Rattle.pictures.specs.declared.sizes.Kind.TheVariants.{Grey, Rgb}
use Rattle.pictures.specs.declared.sizes.Size.{Size}
use Rattle.pictures.specs.declared.refusals.Refusal.{Refusal}
use Rattle.pictures.specs.declared.refusals.Refusal.TheVariants as refusals
use Rattle.pictures.specs.Refusals.{refusal}
use Rattle.pictures.specs.Pictures.{pixel_bytes, picture_bytes, bytes}
use Rattle.pictures.proofs.Limits.{sides_are}
use Rattle.pictures.proofs.Buffers.{length-bytes}
use Rattle.map_theory.proofs.Shown.{allowed_is, offered_is}
use Rattle.text_theory.specs.declared.Head.{Head}
use Rattle.text_theory.specs.Files.{Parts, parse, Pixel, head_get}
use Rattle.text_theory.proofs.Files.{parse_head}
use Rattle.text_read.specs.Answers.{Told}
use Rattle.file_theory.specs.Shows.{sized, Drawn, shows_in, shows, drawn_size, drawn_bytes, offers_in, offers}
use Rattle.file_theory.specs.Demands.{ShownAt, Shaped}
use Rattle.file_theory.proofs.Refused.{show_checked, checked-accepted}
use Rattle.file_theory.proofs.Demands.{shows-some}
use Rattle.file_read.specs.Reading.{ShowGiven}
use Rattle.text_print.specs.Prints.{Put}
use Rattle.text_print.proofs.Written.{put_front}
use Rattle.program_theory.specs.Netpbm.{header_text, netpbm}
use Rattle.program_theory.specs.Programs.{held_pixels, fitted_rules, drawn_text}
use Rattle.program_theory.proofs.Lengths.{header_most}
use Rattle.program_netpbm.specs.Outputs.{output_space}
use Rattle.program_filters.specs.Inner.{DrawNeeded, PictureAnswered}
use Rattle.program_netpbm.proofs.Outputs.{refused_so}
use Rattle.program_filters.proofs.Fitted.{Fitted, fitted, same_number}
use Rattle.map_theory.specs.Bounds.{most_width, most_shown_row}

-- A text without the lines of a head has no parts, and those of its parts are its head's.
module _ {file : List ℕ} where
  pub no_head : (v : ℕ) (out : List ℕ) → Told head_get file 0 none → PictureAnswered file v out (Err refusals.Form) out
  no_head v out t = refused_so refusals.Form (drawn_text (shows file v)) out (go (parse file) refl)
    where
      go : (o : Option Parts) → parse file ≡ o → 1 ≡ refusal (fitted_rules v file)
      go none e = rw e
      go (some p) e = absurd (none-ne-some _ (sym t.same ∙ (parse_head file p e).1))

  pub same_head : {h : Head} {c : ℕ} → Told head_get file 0 (some (h, c)) → (p : Parts) → parse file ≡ some p → p.head ≡ h
  same_head t p e = sym (ap (λ (r : Head × List ℕ). r.0) (some-injective _ _ (sym t.same ∙ (parse_head file p e).1)))

-- The space for a picture has room for three bytes of each pixel held, and no pixel has more.
pub three_bytes : (k : Kind) → pixel_bytes k ≤ 3
unfolding pixel_bytes
three_bytes Grey = omega arith
three_bytes Rgb = omega arith

-- The bytes of a picture that is shown.
drawn_length : (d : Drawn) (v : ℕ) → d.size.width ≡ v → Each (Each (Pixel d.size.kind) v) d.size.height d.rows → length (bytes d.size.kind d.rows) ≡ picture_bytes d.size
drawn_length d v e p = length-bytes d.size d.rows (each_weaken (λ row q. each_weaken (λ px k. k.count) q) (rw (← e) at p))

-- What is known where the file is shown: its size, and the bytes at the front of the space.
pub record Drawing (file : List ℕ) (v : ℕ) (z : Size) (picture' : List ℕ) : Type 0 where
  pub row_most : z.width * pixel_bytes z.kind ≤ most_shown_row
  pub few : picture_bytes z ≤ 3 * held_pixels
  pub inside : picture_bytes z ≤ length picture'
  pub text_is : header_text z ++ take (picture_bytes z) picture' ≡ drawn_text (shows file v)
  pub text_most : length (header_text z ++ take (picture_bytes z) picture') ≤ output_space
  pub served : refusal (fitted_rules v file) ≡ 0

-- What is then printed is what the program writes.
pub draw_served : {file : List ℕ} {v : ℕ} {z : Size} {picture' : List ℕ} → Drawing file v z picture' → {out out' : List ℕ} {n : ℕ} → output_space ≤ length out
    → Put out 0 (header_text z ++ take (picture_bytes z) picture') (Some n) out' → PictureAnswered file v out (Ok n) out'
draw_served {file} {v} D {out} {out'} {n} r P =
    let front = put_front (omega (arith, r, D.text_most, ap length D.text_is)) (rw D.text_is at P) in
    record { number = sym D.served; length_is = front.0; out_given = front.1 }

module _ (file : List ℕ) (v : ℕ) (picture out work : List ℕ) (needed : DrawNeeded file picture out) (work_is : length work ≡ 32 * held_pixels) where
  pub draw_refused : (why : Refusal) {picture' work' : List ℕ} → ShowGiven file v picture work (Err why) picture' work' → PictureAnswered file v out (Err why) out
  draw_refused why g = refused_so why (drawn_text (shows file v)) out (g.number ∙ same_number file v picture out work needed work_is)

  module _ (z : Size) {picture' work' : List ℕ} (g : ShowGiven file v picture work (Ok z) picture' work') where
    nothing : refusal (fitted_rules v file) ≡ 0
    nothing = sym (g.number ∙ same_number file v picture out work needed work_is)

    fit : Fitted file v
    fit = fitted file v nothing

    offers_it : offers file v ≡ true
    unfolding offers
    offers_it = ap (λ q. offers_in q v) fit.parsed ∙ fit.offers_it

    at : ShownAt file v
    at = shows-some file (checked-accepted file (length work) (show_checked file v (length picture) (length work) (sym g.number))) v offers_it

    size_is : z ≡ at.drawn.size
    size_is = some-injective z at.drawn.size (g.size ∙ ap drawn_size at.shown)

    -- The size shown is the file's at the width.
    known : z ≡ sized v fit.parts.head.size
    unfolding shows
    known = some-injective z (sized v fit.parts.head.size) (g.size ∙ ap (λ q. drawn_size (shows_in q v)) fit.parsed)

    -- Its bytes stand at the front of the space.
    long : length (bytes at.drawn.size.kind at.drawn.rows) ≡ picture_bytes z
    long = drawn_length at.drawn v at.width at.pixels ∙ ap picture_bytes (sym size_is)

    is : picture' ≡ bytes at.drawn.size.kind at.drawn.rows ++ drop (length (bytes at.drawn.size.kind at.drawn.rows)) picture
    is = g.out_given ∙ ap (λ q. drawn_bytes q ++ drop (length (drawn_bytes q)) picture) at.shown

    front : take (picture_bytes z) picture' ≡ bytes at.drawn.size.kind at.drawn.rows
    front = ap (take (picture_bytes z)) is ∙ take_at (bytes at.drawn.size.kind at.drawn.rows) (drop (length (bytes at.drawn.size.kind at.drawn.rows)) picture) (picture_bytes z) long

    pub drawing : Drawing file v z picture'
    unfolding netpbm
    drawing =
        let h : Head = fit.parts.head in
        let s : Shaped fit.parts = fit.shaped in
        let k : ℕ = pixel_bytes h.size.kind in
        let m = three_bytes h.size.kind in
        let w = (sides_are h.size s.sides).width_most in
        let g = ((allowed_is h.size.width h.depth h.growth).0 s.range).2 in
        let o = ((offered_is h.size.width h.depth h.growth v).0 fit.offers_it).1 in
        let wide : v ≤ most_width = omega (arith, w, g, o) in
        let bytes-few : picture_bytes z ≤ 3 * held_pixels = rw (known, ← mul_assoc h.size.height v k) (mul-le-mul fit.few m) in
        let z-wide : z.width ≤ most_width = rw known wide in
        let z-high : z.height ≤ most_side = rw known (sides_are h.size s.sides).height_small in
        let six : k ≤ 6 = omega (arith, m) in
        record {
          row_most = rw known (mul-le-mul wide six);
          few = bytes-few;
          inside = omega (arith, long, ap length is, length-append (bytes at.drawn.size.kind at.drawn.rows) (drop (length (bytes at.drawn.size.kind at.drawn.rows)) picture));
          text_is = ap₂ (λ x y. header_text x ++ y) size_is front ∙ sym (ap drawn_text at.shown);
          text_most = omega (arith, length-append (header_text z) (take (picture_bytes z) picture'), header_most z z-wide z-high, ap length front, long, bytes-few);
          served = nothing;
        }
