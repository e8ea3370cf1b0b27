-- `seam_find_kept::down::next_sums` meets its contract: no sum above is more than a fence, and what is stored are the sums of the row.
use Rattle.std.proofs.Common.{◌≡◌, ◌<◌, ◌≤◌, ◌+◌, ◌-◌, ◌*◌, ◌++◌, take, drop, length, ap, ◌∙◌, length-append, arith}
use Rattle.pictures.specs.Limits.{most_side}
use Rattle.pictures.proofs.Limits.{sides_are}
use Rattle.grids.proofs.Rows.{part_end}
use Rattle.seam_find_kept.specs.Finding.{costs_in}
use Rattle.seam_sums.specs.Fences.{fence32}
use Rattle.seam_theory.proofs.Kept.{kept_sums}
use Rattle.seam_find_kept.proofs.KeptRows.{kept-cheap}
use Rattle.seam_find_kept.proofs.Small.{kept-small, kept-long}
use Rattle.seam_find_kept.proofs.Stored.{stride-parts}
use Rattle.seam_find_kept.proofs.Downward.{Front, rows-front, kept-next, one-more}
use Rattle.seam_find_kept.proofs.down.next_sums.Given as given
use Rattle.seam_find_kept.proofs.down.next_sums.Goals as goal
use Rattle.seam_find_kept.proofs.down.next_sums.Goals.{After-split_at_mut-above}

-- The rows above row i stand in front of it.
there : (g : given.Over) (c : After-split_at_mut-above g)
    → Front g.S.Sum.bytes g.S.Sum.most g.S.Sum.held
    (costs_in c.args.method.energy c.args.size c.args.width c.args.costs.up.now c.args.costs.left.now c.args.costs.right.now)
    c.args.size c.args.width c.args.i c.split_at_mut-above.result.0.now
there g c =
    let a = c.args in
    let is : c.split_at_mut-above.result.0.now ≡ take (a.i * ((a.width + 2) * g.S.Sum.bytes)) a.sums.now =
    c.split_at_mut-above.ensures.front ∙ ap (λ s. take (a.i * s) a.sums.now) c.row_bytes-stride.ensures.all in
    rows-front g.S.Sum.bytes g.S.Sum.most g.S.Sum.held _ a.size a.width c.requires.rows _ is

-- What is left after the rows above it has room for a row.
room : (g : given.Over) (c : After-split_at_mut-above g)
    → c.args.width * g.S.Sum.bytes + (g.S.Sum.bytes + g.S.Sum.bytes) ≤ length c.split_at_mut-above.result.1.now
room g c =
    let a = c.args in
    let front = there g c in
    omega (
      arith,
      front.long,
      c.split_at_mut-above.ensures.front_len,
      c.split_at_mut-above.ensures.back_len,
      stride-parts a.width g.S.Sum.bytes,
      part_end a.i a.size.height ((a.width + 2) * g.S.Sum.bytes) c.requires.inside,
      c.requires.rows.room,
    )

pub split_at_mut-left-requires : goal.split_at_mut-left-requires
split_at_mut-left-requires g c =
    omega (arith, room g ((goal.at.split_at_mut-left-requires g c).After-split_at_mut-above), c.bytes.ensures.one)

pub split_at_mut-next-requires : goal.split_at_mut-next-requires
split_at_mut-next-requires g c =
    omega (
      arith,
      room g ((goal.at.split_at_mut-next-requires g c).After-split_at_mut-above),
      c.split_at_mut-left.ensures.back_len,
      c.bytes.ensures.one,
      c.row_bytes.ensures.all,
    )

pub put_fences-requires-clause-right : goal.put_fences-requires-clause-right
put_fences-requires-clause-right g c =
    c.bytes.ensures.laws.one _ (omega (
      arith,
      room g ((goal.at.put_fences-requires-clause-right g c).After-split_at_mut-above),
      c.split_at_mut-left.ensures.back_len,
      c.split_at_mut-next.ensures.back_len,
      c.bytes.ensures.one,
      c.row_bytes.ensures.all,
    ))

pub row_sums-requires-clause-row : goal.row_sums-requires-clause-row
row_sums-requires-clause-row g c =
    let a = c.args in
    let k = a.costs in
    let S = g.S.Sum in
    let cheap = kept-cheap a.method.energy a.size a.width k.up.now k.left.now k.right.now c.requires.planes in
    let few : a.i - 1 < most_side = omega (arith, c.requires.inside, (sides_are a.size c.requires.planes.sides).height_small) in
    let front = there g ((goal.at.row_sums-requires-clause-row g c).After-split_at_mut-above) in
    let is : S.held (take (length c.split_at_mut-above.result.0.now - (a.i - 1) * c.row_bytes-stride.result) (drop ((a.i - 1) * c.row_bytes-stride.result) c.split_at_mut-above.result.0.now))
    ≡ kept_sums S.most fence32 a.width (costs_in a.method.energy a.size a.width k.up.now k.left.now k.right.now) (a.i - 1) =
    rw c.row_bytes-stride.ensures.all front.last_is in
    record {
      inside = c.requires.inside;
      long = ap length is ∙ kept-long _ a.width cheap S.most (a.i - 1);
      small = λ j. rw is (kept-small _ a.width cheap (a.i - 1) few S.most j);
      next_long = c.row_bytes.ensures.laws.long a.width _ (omega (arith, c.split_at_mut-next.ensures.front_len, c.row_bytes.ensures.all));
    }

pub returns : goal.returns
returns g c =
    let a = c.args in
    let S = g.S.Sum in
    let n = c.requires.rows in
    let above = c.split_at_mut-above.result.0.now in
    let left = c.put_fences.new.left in
    let next = c.row_sums.new.next in
    let right = c.put_fences.new.right in
    let above-was = c.split_at_mut-above.ensures in
    let left-was = c.split_at_mut-left.ensures in
    let next-was = c.split_at_mut-next.ensures in
    let front = there g ((goal.at.returns g c).After-split_at_mut-above) in
    let whole = part_end a.i a.size.height ((a.width + 2) * S.bytes) c.requires.inside in
    let parts = stride-parts a.width S.bytes in
    let last-is : S.held (take (length above - (a.i - 1) * c.row_bytes-stride.result) (drop ((a.i - 1) * c.row_bytes-stride.result) above))
    ≡ kept_sums S.most fence32 a.width (costs_in a.method.energy a.size a.width a.costs.up.now a.costs.left.now a.costs.right.now) (a.i - 1) =
    rw c.row_bytes-stride.ensures.all front.last_is in
    one-more c.bytes.ensures.laws _ a.size a.width a.i above left next right c.requires.inside front.long
    (omega (arith, c.put_fences.auto.left, left-was.front_len, c.bytes.ensures.one))
    (omega (arith, c.row_sums.auto.next, next-was.front_len, c.row_bytes.ensures.all))
    (omega (
      arith,
      length-append above (left ++ (next ++ right)),
      length-append left (next ++ right),
      length-append next right,
      c.put_fences.auto.left,
      c.row_sums.auto.next,
      c.put_fences.auto.right,
      above-was.front_len,
      above-was.back_len,
      left-was.front_len,
      left-was.back_len,
      next-was.front_len,
      next-was.back_len,
      front.long,
      parts,
      c.bytes.ensures.one,
      c.row_bytes.ensures.all,
      whole,
      n.room,
    ))
    front.rows
    (omega (
      arith,
      c.put_fences.auto.right,
      above-was.front_len,
      above-was.back_len,
      left-was.back_len,
      next-was.back_len,
      front.long,
      parts,
      c.bytes.ensures.one,
      c.row_bytes.ensures.all,
      whole,
      n.room,
    ))
    c.put_fences.ensures.left
    (c.row_sums.ensures ∙ kept-next S.most _ a.width a.i _ n.later last-is)
    c.put_fences.ensures.right
