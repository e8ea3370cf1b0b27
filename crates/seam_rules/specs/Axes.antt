-- Sizes for seams along either axis. "A horizontal seam is the vertical seam of the picture with rows and columns exchanged."
use Rattle.std.specs.Prelude.{◌-◌}
use Rattle.pictures.specs.declared.sizes.Kind.TheVariants.{Grey}
use Rattle.pictures.specs.declared.sizes.Size.{Size}
use Rattle.seam_rules.specs.declared.answers.Axis.{Axis}
use Rattle.seam_rules.specs.declared.answers.Axis.TheVariants.{Vertical, Horizontal}

-- The size in which a seam along the axis is vertical.
abbrev pub turned_size : Axis → Size → Size
turned_size Vertical z = z
turned_size Horizontal z = record { width = z.height; height = z.width; kind = z.kind }

-- The size with a column less.
abbrev pub narrowed : Size → Size
narrowed z = record { width = z.width - 1; height = z.height; kind = z.kind }

-- Marks are moved as a grey picture of the same sides.
abbrev pub grey_of : Size → Size
grey_of z = record { width = z.width; height = z.height; kind = Grey }
