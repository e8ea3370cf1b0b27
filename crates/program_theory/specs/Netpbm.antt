-- "a Netpbm picture (P5 or P6, byte 10, width, blank, height, byte 10, 255, byte 10, samples; [..])": its text, and the
-- reader of its header.
use Rattle.std.specs.Prelude.{cond, List, [], ◌∷◌, ◌++◌, ℕ, eqb}
use Rattle.std.proofs.Math.Option.{Option, none, some}
use Rattle.pictures.specs.Numbers.{largest_number}
use Rattle.pictures.specs.declared.sizes.Kind.{Kind}
use Rattle.pictures.specs.declared.sizes.Kind.TheVariants.{Grey, Rgb}
use Rattle.pictures.specs.declared.sizes.Size.{Size}
use Rattle.pictures.specs.Pictures.{largest_sample, bytes}
use Rattle.text_theory.specs.Readers.{Get, give, ◌▷◌, after, known}
use Rattle.text_theory.specs.Decimal.{digits, number_get}
use Rattle.text_theory.specs.Files.{line_end, blank}
use Rattle.file_theory.specs.Shows.{Drawn}

-- "P5 or P6": the letter, and the number after it, which says the kind.
unfoldable pub letter_p : List ℕ
letter_p = 80 ∷ []  -- 'P'

abbrev pub magic_of : Kind → ℕ
magic_of Grey = 5
magic_of Rgb = 6

-- "P5 or P6, byte 10, width, blank, height, byte 10, 255, byte 10". The largest sample, 255, is Netpbm's maxval.
unfoldable pub header_text : Size → List ℕ
header_text z =
    letter_p ++ (digits (magic_of z.kind) ++ (line_end ++ (digits z.width ++ (blank ++ (digits z.height ++ (line_end
    ++ (digits (largest_sample z.kind) ++ line_end)))))))

-- A picture with its header.
unfoldable pub netpbm : Drawn → List ℕ
netpbm d = header_text d.size ++ bytes d.size.kind d.rows

-- The kind whose pictures have the number p after the letter and the maxval m.
unfoldable pub kind_by : ℕ → ℕ → Option Kind
kind_by p m = cond (eqb m 255) (cond (eqb p 5) (some Grey) (cond (eqb p 6) (some Rgb) none)) none

-- The reader of a header gives the size, and the samples are what is left. "Numbers in that line and in a Netpbm header have
-- the file's form."
unfoldable pub header_get : Get Size
header_get =
    after letter_p (number_get largest_number ▷ λ p. after line_end (number_get largest_number ▷ λ w. after blank (number_get largest_number ▷ λ h.
    after line_end (number_get largest_number ▷ λ m. after line_end (known (kind_by p m) ▷ λ k.
    give (record { width = w; height = h; kind = k }))))))
