-- Its row lines and map lines read. What private functions ask and promise; no public promise cites it.
use Rattle.std.specs.Prelude.{◌≡◌, List, [], ◌++◌, ℕ, ◌+◌, ◌<◌, get_or, drop}
use Rattle.pictures.specs.Pictures.{picture_bytes}
use Rattle.text_theory.specs.declared.Head.{Head}
use Rattle.text_theory.specs.Files.{parse}
use Rattle.file_theory.specs.Shows.{bytes_in, maps_in}
use Rattle.file_read.specs.Inner.Opening.{maps_from}

-- Map line r, read from its place into a space of just its numbers.
pub record MapRead (file : List ℕ) (r at : ℕ) (out : List ℕ) : Type 0 where
  pub next : drop at file ≡ maps_from (parse file) (r + 1)
  pub numbers : out ≡ get_or (maps_in (parse file)) r []

-- Whichever map line stands there.
abbrev pub ReadsMap : List ℕ → Head → ℕ → ℕ → List ℕ → Type 0
ReadsMap file h at next out = (r : ℕ) → r < h.size.height → drop at file ≡ maps_from (parse file) r → MapRead file r next out

-- All row lines, read into the front of a space: the picture, and the place of the first map line.
pub record PictureRead (file : List ℕ) (h : Head) (space : List ℕ) (at : ℕ) (space' : List ℕ) : Type 0 where
  pub place : drop at file ≡ maps_from (parse file) 0
  pub space_is : space' ≡ bytes_in (parse file) ++ drop (picture_bytes h.size) space
