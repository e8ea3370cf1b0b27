-- `map_show::rows::put_last` meets its contract: where the last pixel has a new one, there is room for the second of the two after the
-- first.
use Rattle.map_show.proofs.Lasts.{new-needed, new-put, pixel-needed, pixel-put}
use Rattle.map_show.proofs.rows.put_last.Goals as goal

pub put_mean-requires : goal.put_mean-requires
put_mean-requires g c =
    let a = c.args in
    new-needed g.row.N a.wrap a.samples.now a.last a.new a.out.now a.at c.requires c.if-new.true c.if-wrap.true c.put_pixel.ensures

pub put_pixel-requires-else-wrap : goal.put_pixel-requires-else-wrap
put_pixel-requires-else-wrap g c =
    let a = c.args in
    pixel-needed g.row.N a.wrap a.samples.now a.last a.new a.out.now a.at c.requires c.if-new.true c.if-wrap.false c.saturating_sub.ensures c.put_mean-else-wrap.ensures

pub returns-then-wrap : goal.returns-then-wrap
returns-then-wrap g c =
    let a = c.args in
    new-put g.row.N a.wrap a.samples.now a.last a.new a.out.now a.at c.requires c.if-new.true c.if-wrap.true c.put_pixel.ensures c.put_mean.ensures

pub returns-else-wrap : goal.returns-else-wrap
returns-else-wrap g c =
    let a = c.args in
    pixel-put g.row.N a.wrap a.samples.now a.last a.new a.out.now a.at c.requires c.if-new.true c.if-wrap.false c.saturating_sub.ensures c.put_mean-else-wrap.ensures c.put_pixel-else-wrap.ensures
