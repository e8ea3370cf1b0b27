-- It is shown at a width. What private functions ask and promise; no public promise cites it.
use Rattle.std.specs.Prelude.{◌≡◌, ◌≤◌, true, List, ◌++◌, ℕ, length, take, drop, replicate}
use Rattle.pictures.specs.Refusals.{refusal}
use Rattle.pictures.specs.Pictures.{picture_bytes}
use Rattle.map_theory.specs.Widths.{offered}
use Rattle.text_theory.specs.declared.Head.{Head}
use Rattle.text_theory.specs.Files.{parse}
use Rattle.file_theory.specs.Shows.{bytes_in, shows, drawn_bytes}
use Rattle.file_rules.specs.Spaces.{offer_rules}
use Rattle.file_read.specs.Inner.Checking.{judged_in}

-- An accepted file, a width that it offers, and room for what is shown.
pub record DrawNeeded (file : List ℕ) (h : Head) (v out work : ℕ) : Type 0 where
  pub accepted : refusal (judged_in (parse file)) ≡ 0
  pub room : refusal (offer_rules h v out work) ≡ 0

-- What is shown, at the front of the space.
abbrev pub drawn_in : List ℕ → ℕ → List ℕ → List ℕ
drawn_in file v out = drawn_bytes (shows file v) ++ drop (length (drawn_bytes (shows file v))) out

-- And the work space cleared.
pub record DrawGiven (file : List ℕ) (v : ℕ) (out work out' work' : List ℕ) : Type 0 where
  pub out_given : out' ≡ drawn_in file v out
  pub work_left : work' ≡ replicate (length work) 0

-- An accepted file whose picture stands at the front of a space, and a width that it offers.
pub record Showing (file : List ℕ) (h : Head) (v : ℕ) (space : List ℕ) : Type 0 where
  pub accepted : refusal (judged_in (parse file)) ≡ 0
  pub offers : offered h.size.width h.depth h.growth v ≡ true
  pub picture_is : take (picture_bytes h.size) space ≡ bytes_in (parse file)
  pub inside : picture_bytes h.size ≤ length space
