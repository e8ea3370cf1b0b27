-- The demands on files: which accepted files are the same, that every picture has one, and what is left out between widths.
use mathlib.Core.Path.{◌≡◌, refl, sym, ap, ap₂, ◌∙◌}
use mathlib.Core.Logic.{◌↔◌}
use mathlib.Core.Bool.{true}
use mathlib.Core.Option.{Option, none, some, none-ne-some, some-injective}
use mathlib.Core.List.{List, [], zip_with}
use Prim.Native.Nat.{ℕ, ◌+◌, ◌-◌, ◌≤◌, ◌<◌}
use native.Mathlib.Omega.{arith}
use lib.ListN.{get_or}
use Rattle.pictures.specs.declared.sizes.Size.{Size}
use Rattle.grids.proofs.Shapes.{each_weaken}
use Rattle.pictures.specs.Pictures.{Picture, OfSize}
use Rattle.energy.specs.declared.methods.Method.{Method}
use Rattle.energy.specs.Methods.{wrap_of}
use Rattle.map_theory.specs.Maps.{carve, map_of}
use Rattle.map_theory.specs.Widths.{allowed, offered, grow_row, shown, LeftOut}
use Rattle.map_theory.proofs.Shown.{allowed_is, offered_is, shown-carve}
use Rattle.map_theory.proofs.Grown.{shown-grown}
use Rattle.text_theory.specs.declared.Head.{Head}
use Rattle.text_theory.specs.Files.{Parts, parse, text}
use Rattle.text_theory.proofs.Pairs.{reads_injective}
use Rattle.text_theory.proofs.Names.{rule_reads}
use Rattle.text_theory.proofs.Ascii.{text-ascii}
use Rattle.file_theory.specs.Contents.{choose_of, mean_of, parts_of, file_of}
use Rattle.file_theory.proofs.Heads.{head_chooses}
use Rattle.file_theory.specs.Shows.{Accepted, offers, Drawn, sized, shows_in, shows, original, energy_word}
use Rattle.file_theory.specs.Demands.{AllowedPicture, Built, FileFor, ShownAt}
use Rattle.file_theory.proofs.Shapes.{all-all}
use Rattle.file_theory.proofs.Shaped.{shaped_is}
use Rattle.file_theory.proofs.Accepting.{accepted_shaped, accepted-judged, judged_built, accepted_built}
use Rattle.file_theory.proofs.Built.{built_original, built_word, built_offers, built_shows, built_picture, built_pixels, built_left_out}

-- Widths that are offered alike are those of the same depth and growth.
more-range : (m k g l d : ℕ) → allowed m k g ≡ true → allowed m l d ≡ true → ((v : ℕ) → offered m k g v ≡ true → offered m l d v ≡ true) → (k ≤ l) × (g ≤ d)
more-range m k g l d a b e =
    let x = ((allowed_is m k g).0 a).0 in
    let y = ((allowed_is m l d).0 b).0 in
    let n = ((offered_is m l d (m - k)).0 (e (m - k) ((offered_is m k g (m - k)).1 (omega arith, omega arith)))).0 in
    let w = ((offered_is m l d (m + g)).0 (e (m + g) ((offered_is m k g (m + g)).1 (omega arith, omega arith)))).1 in
    (omega arith, omega arith)

same-range : (m k g l d : ℕ) → allowed m k g ≡ true → allowed m l d ≡ true → ((v : ℕ) → offered m k g v ≡ offered m l d v) → (k ≡ l) × (g ≡ d)
same-range m k g l d a b e =
    let x = more-range m k g l d a b (λ v o. sym (e v) ∙ o) in
    let y = more-range m l d k g b a (λ v o. e v ∙ o) in
    (omega (arith, x.0, y.0), omega (arith, x.1, y.1))

-- (a) Two accepted files are the same just where they show the same picture at their original width, offer the same widths and
-- have the same energy word.
pub same-file : (f g : List ℕ) → Accepted f → Accepted g
    → (f ≡ g) ↔ ((shows f (original f) ≡ shows g (original g)) × ((v : ℕ) → offers f v ≡ offers g v) × (energy_word f ≡ energy_word g))
same-file f g a c = (
  λ e. (ap (λ (x : List ℕ). shows x (original x)) e, λ v. ap (λ (x : List ℕ). offers x v) e, ap energy_word e),
  λ h. back ((accepted_built f).0 a) ((accepted_built g).0 c) h.0 h.1 h.2,
)
  where
    back : Built f → Built g → shows f (original f) ≡ shows g (original g) → ((v : ℕ) → offers f v ≡ offers g v) → energy_word f ≡ energy_word g → f ≡ g
    back x y s o w =
        let drawn : ◌≡◌ {A = Drawn} (record { size = x.head.size; rows = x.rows }) (record { size = y.head.size; rows = y.rows }) =
        some-injective _ _ (sym (ap (shows f) (built_original x) ∙ built_picture x) ∙ s ∙ ap (shows g) (built_original y) ∙ built_picture y) in
        let size : x.head.size ≡ y.head.size = ap (λ (d : Drawn). d.size) drawn in
        let rows : x.rows ≡ y.rows = ap (λ (d : Drawn). d.rows) drawn in
        let wide : x.head.size.width ≡ y.head.size.width = ap (λ (z : Size). z.width) size in
        let range = same-range x.head.size.width x.head.depth x.head.growth y.head.depth y.head.growth
        x.range (rw (← wide) at y.range) (λ v. sym (built_offers x v) ∙ o v ∙ built_offers y v ∙ ap (λ (n : ℕ). offered n y.head.depth y.head.growth v) (sym wide)) in
        let rule : x.head.method.energy ≡ y.head.method.energy =
        reads_injective rule_reads tt x.head.method.energy y.head.method.energy tt tt (sym (built_word x) ∙ w ∙ built_word y) in
        let head : x.head ≡ y.head = λ i. record { size = size i; method = record { energy = rule i }; depth = range.0 i; growth = range.1 i } in
        x.is ∙ ap₂ file_of head rows ∙ sym y.is

-- (b) Every allowed picture has, for every method and every allowed range of widths, an accepted file with this method's energy word
-- that shows it and offers them.
pub every-picture : (z : Size) (how : Method) (p : Picture) (k g : ℕ) → AllowedPicture z p → allowed z.width k g ≡ true → (f : List ℕ) × FileFor z how p k g f
unfolding file_of
every-picture z how p k g a r =
    let h : Head = record { size = z; method = how; depth = k; growth = g } in
    let b : Built (file_of h p) = record { head = h; rows = p; picture = a; range = r; is = refl } in (
      file_of h p,
      record {
        bytes_are = all-all (λ c l. omega arith) (text (parts_of h p)) (text-ascii (parts_of h p));
        is_accepted = (accepted_built (file_of h p)).1 b;
        width_is = built_original b;
        word_is = built_word b;
        picture_is = built_picture b;
        widths_are = built_offers b;
      },
    )

-- (c) Each row at a width that an accepted file offers is the row at any greater one with as many points left out as the
-- widths differ by, the others unchanged and in their order.
pub left_out : (f : List ℕ) → Accepted f → (v u r : ℕ) → offers f v ≡ true → offers f u ≡ true → v ≤ u
    → (a b : Drawn) → shows f v ≡ some a → shows f u ≡ some b → r < a.size.height → LeftOut (u - v) (get_or a.rows r []) (get_or b.rows r [])
left_out f c v u r o w l a b s t h =
    let x = (accepted_built f).0 c in
    let p = some-injective _ _ (sym s ∙ built_shows x v) in
    let q = some-injective _ _ (sym t ∙ built_shows x u) in
    rw (p, q) (built_left_out x v u r o w l (rw p at h))

-- At each offered width an accepted file shows a picture,
pub shows-some : (f : List ℕ) → Accepted f → (v : ℕ) → offers f v ≡ true → ShownAt f v
shows-some f a v o =
    let x = (accepted_built f).0 a in
    record {
      drawn = record { size = sized v x.head.size; rows = shown (mean_of x.head) (wrap_of x.head.method) x.head.size.width v x.rows (parts_of x.head x.rows).maps };
      shown = built_shows x v;
      width = refl;
      pixels = built_pixels x v o;
    }

-- of its size, so that its bytes are those of a lent picture;
pub shown-of_size : (f : List ℕ) → Accepted f → (v : ℕ) → offers f v ≡ true → (a : Drawn) → shows f v ≡ some a → OfSize a.size a.rows
shown-of_size f h v o a s =
    let d = shows-some f h v o in
    let e : a ≡ d.drawn = some-injective _ _ (sym s ∙ d.shown) in
    rw (e, d.width) (each_weaken (λ row g. each_weaken (λ px q. q.count) g) d.pixels)

-- all of them of one height and one kind;
pub shows_alike : (f : List ℕ) (v u : ℕ) (a b : Drawn) → shows f v ≡ some a → shows f u ≡ some b → (a.size.height ≡ b.size.height) × (a.size.kind ≡ b.size.kind)
unfolding shows
shows_alike f v u a b s t = go (parse f) s t
  where
    go : (o : Option Parts) → shows_in o v ≡ some a → shows_in o u ≡ some b → (a.size.height ≡ b.size.height) × (a.size.kind ≡ b.size.kind)
    go none s t = absurd (none-ne-some _ s)
    go (some p) s t =
        let x = some-injective _ _ s in
        let y = some-injective _ _ t in
        (sym (ap (λ (d : Drawn). d.size.height) x) ∙ ap (λ (d : Drawn). d.size.height) y, sym (ap (λ (d : Drawn). d.size.kind) x) ∙ ap (λ (d : Drawn). d.size.kind) y)

-- at width m - t the picture after t cuts of the seam found in what is then left;
pub shows-cut : (f : List ℕ) (p : Parts) → Accepted f → parse f ≡ some p → (t : ℕ) → t ≤ p.head.depth
    → shows f (p.head.size.width - t)
    ≡ some (record { size = sized (p.head.size.width - t) p.head.size; rows = carve (choose_of p.head) t p.head.size.width p.head.size.height p.rows })
unfolding shows
shows-cut f p a e t l =
    let s = (shaped_is p).0 (accepted_shaped f p e a) in
    let d = ((allowed_is p.head.size.width p.head.depth p.head.growth).0 s.range).0 in
    let c = shown-carve (mean_of p.head) (wrap_of p.head.method) (choose_of p.head) (head_chooses p.head) t p.head.depth p.head.size.width p.head.size.height p.rows s.rows l (omega arith) in
    rw (e, (judged_built p s).0 (accepted-judged f p e a), c)

-- and at width m + u the original with the first u of these seams doubled.
pub shows-grown : (f : List ℕ) (p : Parts) → Accepted f → parse f ≡ some p → (u : ℕ) → 1 ≤ u → u ≤ p.head.growth
    → shows f (p.head.size.width + u)
    ≡ some
    (record {
      size = sized (p.head.size.width + u) p.head.size;
      rows = zip_with (grow_row (mean_of p.head) (wrap_of p.head.method) u) p.rows (map_of (choose_of p.head) u p.head.size.width p.head.size.height p.rows);
    })
unfolding shows
shows-grown f p a e u l g =
    let s = (shaped_is p).0 (accepted_shaped f p e a) in
    let d = (allowed_is p.head.size.width p.head.depth p.head.growth).0 s.range in
    let c = shown-grown (mean_of p.head) (wrap_of p.head.method) (choose_of p.head) (head_chooses p.head) u p.head.depth p.head.size.width p.head.size.height p.rows s.rows l (omega (arith, d.1)) (omega (arith, d.0)) in
    rw (e, (judged_built p s).0 (accepted-judged f p e a), c)
