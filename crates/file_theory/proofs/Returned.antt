-- What reading a file that was built gives back: its head, the bytes of the picture that was lent, and its map.
use mathlib.Core.Path.{◌≡◌, ap, ◌∙◌}
use mathlib.Core.Option.{some}
use mathlib.Core.List.{List}
use Prim.Native.Nat.{ℕ, ◌<◌}
use lib.ListN.{length}
use Rattle.pictures.specs.Refusals.{refusal}
use Rattle.pictures.specs.Pictures.{picture}
use Rattle.pictures.proofs.Limits.{sized_is}
use Rattle.pictures.proofs.Buffers.{bytes-picture}
use Rattle.map_theory.specs.Maps.{map_of}
use Rattle.text_theory.specs.declared.Head.{Head}
use Rattle.text_theory.specs.Files.{All, parse}
use Rattle.file_theory.specs.Contents.{choose_of, file_of}
use Rattle.file_theory.specs.Rules.{build_rules}
use Rattle.file_theory.specs.Shows.{head_in, bytes_in, maps_in}
use Rattle.file_theory.proofs.Built.{built_parsed}
use Rattle.file_theory.proofs.Lent.{are_bytes, lent_sized, lent_built}

-- "Reading a built file returns its picture and map", where building from a lent buffer of bytes isn't refused.
pub read_built : (b : List ℕ) (h : Head) (out work : ℕ) → All (λ (a : ℕ). a < 256) b → refusal (build_rules b h out work) ≡ 0
    → (head_in (parse (file_of h (picture h.size b))) ≡ some h)
    × (bytes_in (parse (file_of h (picture h.size b))) ≡ b)
    × (maps_in (parse (file_of h (picture h.size b))) ≡ map_of (choose_of h) h.depth h.size.width h.size.height (picture h.size b))
unfolding lent_built
read_built b h out work small fine =
    let e = built_parsed (lent_built b h out work fine small) in (
      ap head_in e,
      ap bytes_in e ∙ bytes-picture h.size b (sized_is h.size (length b) (lent_sized b h out work fine)).length_is (are_bytes b small),
      ap maps_in e,
    )
