-- Lines that are known to stand at a place: their numbers come next, and after them their line end.
use mathlib.Core.Path.{◌≡◌, refl, sym, ap, ap₂, subst, ◌∙◌}
use mathlib.Core.Option.{none, some, some-injective}
use mathlib.Core.List.{List, [], ◌∷◌, ◌++◌, append_assoc, map}
use Prim.Native.Nat.{ℕ, ◌+◌, ◌*◌, ◌/◌, ◌-◌, ◌≤◌, ◌<◌}
use native.Mathlib.Nat.{div-add-mod', mod-lt}
use native.Mathlib.Omega.{arith}
use Rattle.std.proofs.lemmas.List.{map-id}
use borrow.Rule.Slice.PartMut.{put_mid}
use Rattle.grids.proofs.Parts.{put_part}
use lib.ListN.{length, take, drop, length-append}
use lib.Seq.{take_at, take_all, length-take-le}
use Rattle.grids.specs.Rows.{flat}
use Rattle.text_theory.specs.Readers.{Get, give, ◌▷◌}
use Rattle.pictures.specs.Numbers.{largest_number, low_byte, high_byte, pairs}
use Rattle.pictures.proofs.TwoBytes.{length_pairs, pairs-append}
use Rattle.pictures.specs.declared.sizes.Kind.{Kind}
use Rattle.text_theory.specs.Decimal.{digits, number_get, is_digit}
use Rattle.text_theory.specs.Files.{each, blank, closed, opening, begun, row_word, map_word, pixel_text, line_text, pixel_get, line}
use Rattle.text_theory.proofs.Pairs.{on_inv, after_inv}
use Rattle.text_theory.proofs.Decimals.{number_reads}
use Rattle.text_theory.proofs.Files.{line_reads, pixel_reads, clear-blank, clear-closing, clear-closed}
use Rattle.text_read.specs.Answers.{Told}
use Rattle.text_read.specs.Lines.{row_line, map_line, record_line, Known, KnownRow}
use Rattle.text_read.specs.Inner.{figure, Coming, after_line, Numbered}
use Rattle.text_read.proofs.Figures.{FillingIf, filling_first, filling_none, filling_small, filling_next, filling_done}
use Rattle.text_read.proofs.LineSteps.{Stand, gap, stand-coming, stand-figures, stand-beyond, closed_stand, numbers_stand, row_stand}
use Rattle.text_read.proofs.LinesTaken.{stand_is}

-- The word of a line stands before its numbers.
row_begun : {limit : ℕ} {u xs s : List ℕ} → Stand limit u xs s → Stand limit u xs (row_word ++ s)
unfolding row_word begun opening is_digit
row_begun k = gap refl refl (gap refl refl (gap refl refl (gap refl refl k)))

map_begun : {limit : ℕ} {u xs s : List ℕ} → Stand limit u xs s → Stand limit u xs (map_word ++ s)
unfolding map_word begun opening is_digit
map_begun k = gap refl refl (gap refl refl (gap refl refl (gap refl refl k)))

-- Where the reader gives a line's values, they stand there.
map_stand : (s xs t : List ℕ) → map_line s ≡ some (xs, t) → Stand largest_number t xs s
unfolding map_line line_text
map_stand s xs t h =
    let w = after_inv map_word (line (number_get largest_number)) s (xs, t) h in
    let z = (line_reads (number_reads largest_number) clear-blank clear-closing).sound w.0 (xs, t) w.2 in
    stand_is w.1
    (map_begun (stand_is (z.0 ∙ append_assoc (each blank digits xs) closed t) (numbers_stand t largest_number xs (closed ++ t) z.1 (clear-closed t) (closed_stand largest_number t))))

row-stand : (k : Kind) (s xs t : List ℕ) → row_line k s ≡ some (xs, t) → Stand 255 t xs s
unfolding row_line line_text
row-stand k s xs t h =
    let w = after_inv row_word (line (pixel_get k) ▷ λ row. give (flat row)) s (xs, t) h in
    let p = on_inv (line (pixel_get k) w.0) (λ row. give (flat row)) (xs, t) w.2 in
    let z = (line_reads (pixel_reads k) clear-blank clear-closing).sound w.0 p.0 p.1 in
    let e = some-injective (flat p.0.0, p.0.1) (xs, t) p.2 in
    let P : List ℕ × List ℕ → Type 0 = λ q. Stand 255 q.1 q.0 s in
    subst P e
    (stand_is w.1
    (row_begun (stand_is (z.0 ∙ append_assoc (each blank (pixel_text k) p.0.0) closed p.0.1) (row_stand p.0.1 k p.0.0 (closed ++ p.0.1) z.1 (clear-closed p.0.1) (closed_stand 255 p.0.1)))))

-- So what was read are its values, and the place is the one after it.
module _ {limit n : ℕ} {text : List ℕ} {at next : ℕ} {read : List ℕ} (N : Numbered limit n text at next read) where
  pub known_line : limit ≤ largest_number → {xs t : List ℕ} → Stand limit t xs (drop at text) → length xs ≡ n → (read ≡ xs) × (drop next text ≡ t)
  known_line small {xs} k e =
      let c = rw e at (stand-coming limit small k) in
      (N.numbers c ∙ rw (← e) (stand-figures limit small k), N.place c ∙ rw (← e) (stand-beyond limit small k))

-- A line of a reader whose lines stand there, read into a space of just its values.
pub known_as : {get : Get (List ℕ)} {limit : ℕ} → limit ≤ largest_number → ((s xs t : List ℕ) → get s ≡ some (xs, t) → Stand limit t xs s)
    → {text : List ℕ} {at next : ℕ} {out out' : List ℕ} → Numbered limit (length out) text at next (map (λ n. n) out') → length out' ≡ length out → Known get text at out next out'
known_as small stand {text} {at} {out' = out'} N l = record {
  line = λ xs rest h e. rw map-id at (known_line N small (stand (drop at text) xs rest h) e);
  long = l;
}

pub row_known : {text : List ℕ} {at next : ℕ} {out out' : List ℕ} → Numbered 255 (length out) text at next (map (λ n. n) out') → length out' ≡ length out → KnownRow text at out next out'
row_known N l k = known_as (omega arith) (row-stand k) N l

pub map_known : {text : List ℕ} {at next : ℕ} {out out' : List ℕ} → Numbered largest_number (length out) text at next (map (λ n. n) out') → length out' ≡ length out → Known map_line text at out next out'
map_known N l = known_as (omega arith) map_stand N l

-- The state of the loop that writes numbers in two bytes each: i were read, and stand at the front of the space.
pub record Recording (n : ℕ) (text : List ℕ) (from i at : ℕ) (out : List ℕ) : Type 0 where
  pub read : List ℕ
  pub there : take (2 * i) out ≡ pairs read
  pub filling : FillingIf largest_number n text from i at read

module _ {n : ℕ} {text : List ℕ} {from : ℕ} where
  pub recording_first : (out : List ℕ) → Recording n text from 0 from out
  recording_first out = record { read = []; there = refl; filling = filling_first }

  module _ {i at : ℕ} {out : List ℕ} (R : Recording n text from i at out) where
    pub recording_turn : i < n → 2 * n ≤ length out → {v c : ℕ} → Told figure text at (some (v, c)) → (w : ℕ) → (v ≤ largest_number → w ≡ v)
        → (a e : ℕ) → a ≡ 2 * i → e ≡ 2 * i + 2 → (new : List ℕ) → new ≡ low_byte w ∷ high_byte w ∷ [] → Recording n text from (i + 1) c (put_mid a (e - a) out new)
    recording_turn l room {v} t w is a e p q new k =
        let front : length (take a out) ≡ a = length-take-le a out (omega (arith, l, room, p)) in
        let long : length (take a out ++ new) ≡ 2 * (i + 1) = length-append (take a out) new ∙ rw (front, k, p) (omega arith) in
        record {
          read = R.read ++ (w ∷ []);
          there =
              ap (take (2 * (i + 1))) (put_part a e out new (omega (arith, p, q)) ∙ sym (append_assoc (take a out) new (drop e out)))
              ∙ take_at (take a out ++ new) (drop e out) (2 * (i + 1)) long ∙ ap₂ ◌++◌ (rw p R.there) k ∙ sym (pairs-append R.read (w ∷ []));
          filling = λ come. let F = R.filling come in let z = is (filling_small F l t) in rw (← z) at (filling_next F l t);
        }

    -- At the end, and where no number comes.
    pub recording_done : i ≡ n → {next : ℕ} → drop next text ≡ after_line (drop at text) → Numbered largest_number n text from next R.read
    recording_done e p =
        record {
          numbers = λ k. (filling_done (R.filling k) (omega (arith, e))).0;
          place = λ k. p ∙ sym (ap after_line (filling_done (R.filling k) (omega (arith, e))).1);
        }

    pub recording_none : i < n → Told figure text at none → (next : ℕ) → Numbered largest_number n text from next []
    recording_none l t next = record { numbers = λ k. absurd (filling_none (R.filling k) l t); place = λ k. absurd (filling_none (R.filling k) l t) }

-- The bytes of a map line's numbers.
record_stand : (s xs t : List ℕ) → record_line s ≡ some (xs, t) → (ys : List ℕ) × (xs ≡ pairs ys) × Stand largest_number t ys s
unfolding record_line
record_stand s xs t h =
    let p = on_inv (map_line s) (λ ys. give (pairs ys)) (xs, t) h in
    let e = some-injective (pairs p.0.0, p.0.1) (xs, t) p.2 in
    let P : List ℕ × List ℕ → Type 0 = λ q. (ys : List ℕ) × (q.0 ≡ pairs ys) × Stand largest_number q.1 ys s in
    subst P e (p.0.0, refl, map_stand s p.0.0 p.0.1 p.1)

-- Twice as many bytes as numbers.
half : (n long count : ℕ) → n ≡ long / 2 → 2 * count ≡ long → count ≡ n
half n long count e h = rw e (omega (arith, h, div-add-mod' long 2, mod-lt long {m = 2} (omega arith)))

-- A map line that is known to stand there: what was read are its numbers, and the space has their bytes.
pub record_known : {text : List ℕ} {at next n : ℕ} {out out' read : List ℕ} → Numbered largest_number n text at next read → n ≡ length out / 2 → length out' ≡ length out
    → (Coming largest_number n (drop at text) → take (2 * n) out' ≡ pairs read) → Known record_line text at out next out'
record_known {text} {at} {next} {n} {out} {out'} {read} N e l there = record { line = line; long = l }
  where
    line : (xs rest : List ℕ) → record_line (drop at text) ≡ some (xs, rest) → length xs ≡ length out → (out' ≡ xs) × (drop next text ≡ rest)
    line xs rest h k =
        let s = record_stand (drop at text) xs rest h in
        let long : 2 * length s.0 ≡ length out = sym (length_pairs s.0) ∙ sym (ap length s.1) ∙ k in
        let count : length s.0 ≡ n = half n (length out) (length s.0) e long in
        let come : Coming largest_number n (drop at text) = rw count at (stand-coming largest_number (omega arith) s.2) in
        let m = known_line N (omega arith) s.2 count in
        (sym (take_all (2 * n) out' (omega (arith, l, long, count))) ∙ there come ∙ ap pairs m.0 ∙ sym s.1, m.1)
