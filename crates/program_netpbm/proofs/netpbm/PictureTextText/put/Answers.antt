-- The header is put piece by piece, and the samples after it.
use mathlib.Core.Path.{◌≡◌, refl}
use Rattle.pictures.specs.declared.sizes.Kind.{Kind}
use Rattle.pictures.specs.declared.sizes.Kind.TheVariants.{Grey, Rgb}
use Rattle.pictures.specs.Pictures.{largest_sample}
use Rattle.program_theory.specs.Netpbm.{letter_p, header_text}
use Rattle.program_netpbm.proofs.netpbm.PictureTextText.put.Goals as goal

maxval_is : (k : Kind) → largest_sample k ≡ 255
maxval_is Grey = refl
maxval_is Rgb = refl

pub returns : goal.returns
unfolding header_text letter_p
returns g c = rw (maxval_is c.args.self.now.size.kind) (rw c.magic_of.ensures at c.put.ensures)
