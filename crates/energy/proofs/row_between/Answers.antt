-- `energy::row_between` meets its contract: the two rows of bytes lie within the picture, and their energies are those of its row.
use mathlib.Core.Path.{◌≡◌, ap}
use Prim.Native.Nat.{◌*◌}
use native.Mathlib.Omega.{arith}
use lib.ListN.{length}
use Rattle.pictures.specs.Pictures.{row_bytes}
use Rattle.pictures.proofs.Limits.{Sized, sized_is}
use Rattle.energy.proofs.Lines.{ends, lines_are}
use Rattle.energy.proofs.row_between.Goals as goal
use Rattle.energy.proofs.row_between.Goals.{After-neighbour-beside}

module _ (c : After-neighbour-beside) where
  sure : Sized c.args.size (length c.args.picture.now)
  sure = sized_is _ _ c.requires.row.sized

  strided : c.args.size.width * c.pixel_bytes.result ≡ row_bytes c.args.size
  strided = ap (c.args.size.width *◌) c.pixel_bytes.ensures

-- both rows end within the picture
pub slice_bounds-line_energies-end-2 : goal.slice_bounds-line_energies-end-2
slice_bounds-line_energies-end-2 c =
    let a = c.args in
    let k = (goal.at.slice_bounds-line_energies-end-2 c).After-neighbour-beside in
    let e = ends a.size a.method c.requires.rule a.picture.now a.r (a.size.width * c.pixel_bytes.result) c.neighbour.result (sure k) c.requires.row.inside (strided k) c.neighbour.ensures in
    omega arith

pub returns : goal.returns
returns c =
    let a = c.args in
    let k = (goal.at.returns c).After-neighbour-beside in
    rw (lines_are a.size a.method c.requires.rule a.picture.now a.r (a.size.width * c.pixel_bytes.result) c.neighbour.result (sure k) c.requires.row.inside (strided k) c.neighbour.ensures _
    c.neighbour-beside.ensures) at
    c.line_energies.ensures
