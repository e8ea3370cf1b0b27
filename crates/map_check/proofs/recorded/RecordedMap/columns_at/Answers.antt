-- `map_check::recorded::RecordedMap::columns_at` meets its contract: the numbers read are row r of the map, which is a numbering.
use mathlib.Core.Path.{◌≡◌, ap, subst, ◌∙◌}
use Prim.Native.Nat.{◌+◌, ◌-◌, ◌*◌}
use native.Mathlib.Omega.{arith}
use lib.ListN.{length}
use Rattle.grids.specs.Rows.{row_at}
use Rattle.grids.proofs.Rows.{row_at-short}
use Rattle.pictures.specs.Numbers.{numbers_in}
use Rattle.pictures.proofs.TwoBytes.{numbers-row}
use Rattle.map_check.specs.Inner.Columns.{ColumnsOf}
use Rattle.map_check.proofs.Columns.{left_numbering, row_numbered, numbers_below}
use Rattle.map_check.proofs.recorded.RecordedMap.columns_at.Goals as goal
use Rattle.map_check.proofs.recorded.RecordedMap.columns_at.Goals.{After-read_numbers}

-- the numbers read
read : (c : After-read_numbers) → c.read_numbers.new.numbers ≡ row_at c.args.self.now.width c.args.r (numbers_in c.args.self.now.bytes.now)
read c =
    let a = c.args in
    let z = a.self.now in
    let n : a.r * (2 * z.width) + 2 * z.width - a.r * (2 * z.width) ≡ 2 * z.width = omega arith in
    (rw n at c.read_numbers.ensures) ∙ numbers-row z.width a.r z.bytes.now

pub fill_columns-requires : goal.fill_columns-requires
fill_columns-requires c =
    let z = c.args.self.now in
    let is = read (goal.at.fill_columns-requires c).After-read_numbers in
    let row = row_numbered z.depth z.width z.height (numbers_in z.bytes.now) c.args.r c.requires.inside c.requires.numbered in
    let below = numbers_below z.depth c.read_numbers.new.numbers (rw is row) in
    record {
      short = omega (arith, z.sized.wide, ap length is, row_at-short z.width (numbers_in z.bytes.now) c.args.r);
      below = λ i. omega (arith, c.requires.room, below i);
      left = λ i l. left_numbering z.depth _ c.read_numbers.new.numbers (rw is row) l (below i);
    }

pub returns : goal.returns
returns c = subst (λ row. ColumnsOf row c.fill_columns.new.columns) (read (goal.at.returns c).After-read_numbers) c.fill_columns.ensures
