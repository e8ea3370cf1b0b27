-- "The multi-size file": what stands in the file of a picture.
use Rattle.std.specs.Prelude.{Bool, List, ℕ}
use Rattle.pictures.specs.Pictures.{Picture}
use Rattle.energy.specs.Methods.{wrap_of}
use Rattle.seam_theory.specs.Paths.{near}
use Rattle.seam_theory.specs.Choices.{Choice}
use Rattle.map_theory.specs.Maps.{map_of}
use Rattle.map_theory.specs.Widths.{average}
use Rattle.text_theory.specs.declared.Head.{Head}
use Rattle.text_theory.specs.Files.{Parts, text}
use Rattle.seam_theory.specs.PictureSeams.{seam_of}

-- What a file's head says of its seams and widths: which seam is chosen in a picture, which columns of neighbouring rows it may
-- join, and the mean of two pixels.
abbrev pub choose_of : Head → Choice (List ℕ)
choose_of h = seam_of h.method

abbrev pub near_of : Head → ℕ → ℕ → ℕ → Bool
near_of h = near (wrap_of h.method)

abbrev pub mean_of : Head → List ℕ → List ℕ → List ℕ
mean_of h = average

-- The head, the picture's rows, and the rows of its map of the head's depth.
abbrev pub parts_of : Head → Picture → Parts
parts_of h p = record { head = h; rows = p; maps = map_of (choose_of h) h.depth h.size.width h.size.height p }

-- The file that is built: their text.
unfoldable pub file_of : Head → Picture → List ℕ
file_of h p = text (parts_of h p)
