-- `map_show::pixels::put_pixel` meets its contract.
use mathlib.Core.Path.{◌≡◌, ◌∙◌}
use Rattle.grids.specs.Rows.{row_at}
use Rattle.map_show.proofs.Filling.{part-put}
use Rattle.map_show.proofs.Places.{length_part}
use Rattle.map_show.proofs.pixels.put_pixel.Goals as goal

pub returns : goal.returns
returns g c =
    let a = c.args in
    let put : c.copy_pixel.new.out ≡ row_at g.row.N a.c a.samples.now = c.copy_pixel.ensures ∙ c.pixel_at.ensures in
    rw put (part-put a.at g.row.N a.out.now (row_at g.row.N a.c a.samples.now) c.requires.room (length_part g.row.N a.samples.now a.c c.requires.inside))
