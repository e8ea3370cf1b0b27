-- What the private functions of this crate ask. No public promise cites it.
use Rattle.std.specs.Prelude.{◌≡◌, true}
use Rattle.pictures.specs.Refusals.{refusal}
use Rattle.pictures.specs.Pictures.{side_rules}
use Rattle.map_theory.specs.Widths.{allowed}
use Rattle.text_theory.specs.declared.Head.{Head}

-- Size and range that are allowed.
pub record Sound (h : Head) : Type 0 where
  pub sides : refusal (side_rules h.size) ≡ 0
  pub range : allowed h.size.width h.depth h.growth ≡ true
