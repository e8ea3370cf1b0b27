-- The lines of a file printed. What private functions ask and promise; no public promise cites it.
use Rattle.std.specs.Prelude.{◌≡◌, List, ℕ, ◌++◌, ◌≤◌, length, drop}
use Rattle.grids.specs.Rows.{rows_of}
use Rattle.pictures.specs.Pictures.{picture}
use Rattle.pictures.specs.Numbers.{numbers_in}
use Rattle.text_theory.specs.declared.Head.{Head}
use Rattle.file_build.specs.declared.source.Source.{Source}
use Rattle.file_build.specs.declared.maps.MapBytes.{MapBytes}
use Rattle.text_theory.specs.Files.{Parts, text}

-- A map of h rows of w numbers, from its bytes.
abbrev pub map_in : ℕ → ℕ → List ℕ → List (List ℕ)
map_in w h b = rows_of w h (numbers_in b)

-- A file's parts from bytes: its picture and its map.
abbrev pub parts_in : Head → List ℕ → ℕ → ℕ → List ℕ → Parts
parts_in h b w n m = record { head = h; rows = picture h.size b; maps = map_in w n m }

abbrev pub text_in : Source → MapBytes → List ℕ
text_in s m = text (parts_in s.head s.picture.now m.width m.height m.bytes.now)

-- Room for the file.
pub record PrintNeeded (s : Source) (m : MapBytes) (out : List ℕ) : Type 0 where
  pub room : length (text_in s m) ≤ length out

-- The file at the front of the space, and its length.
pub record FilePrinted (s : Source) (m : MapBytes) (out : List ℕ) (n : ℕ) (out' : List ℕ) : Type 0 where
  pub length_is : n ≡ length (text_in s m)
  pub out_is : out' ≡ text_in s m ++ drop (length (text_in s m)) out
