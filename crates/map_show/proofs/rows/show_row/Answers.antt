-- `map_show::rows::show_row` meets its contract: a row is kept or grown.
use Rattle.map_show.proofs.Lengths.{narrow_is, wide_is}
use Rattle.map_show.proofs.Judging.{keep-ready, grow-ready}
use Rattle.map_show.proofs.rows.show_row.Goals as goal

pub keep_row-requires : goal.keep_row-requires
keep_row-requires g c =
    let a = c.args in
    keep-ready g.row.N a.wrap a.samples.now a.numbers.now a.wanted a.out.now c.requires c.if-wanted-width.true

pub grow_row-requires : goal.grow_row-requires
grow_row-requires g c =
    let a = c.args in
    grow-ready g.row.N a.wrap a.samples.now a.numbers.now a.wanted a.out.now c.requires c.if-wanted-width.false

pub returns-then-wanted-width : goal.returns-then-wanted-width
returns-then-wanted-width g c =
    let a = c.args in
    rw (narrow_is g.row.N a.wrap a.samples.now a.numbers.now a.wanted c.if-wanted-width.true) c.keep_row.ensures

pub returns-else-wanted-width : goal.returns-else-wanted-width
returns-else-wanted-width g c =
    let a = c.args in
    rw (wide_is g.row.N a.wrap a.samples.now a.numbers.now a.wanted c.if-wanted-width.false) c.grow_row.ensures
