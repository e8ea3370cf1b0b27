-- Judging the map of a file meets its contract: the picture and the recorded map stand in the work space where judging takes them
-- from.
use Rattle.std.proofs.Common.{◌≡◌, ◌≤◌, length, arith}
use Rattle.grids.proofs.Parts.{part_length}
use Rattle.pictures.proofs.Limits.{given_out}
use Rattle.pictures.specs.Pictures.{work_bytes}
use Rattle.map_rules.specs.Spaces.{recorded_at}
use Rattle.file_read.proofs.Parsed.{Parsed, opened}
use Rattle.file_read.proofs.Places.{pairs-rows, pairs-long}
use Rattle.file_read.proofs.Offered.{picture-fits}
use Rattle.file_read.proofs.Standing.{map-judged}
use Rattle.file_read.proofs.opening.Opened.judge.Goals.{After-read_picture-maps}
use Rattle.file_read.proofs.opening.Opened.judge.Goals as goal

module _ (c : After-read_picture-maps) where
  known : Parsed c.args.self.now.text.now c.args.self.now.head
  known = opened _ _ c.args.self.now.open

  at-is : c.recorded_at-at.result ≡ recorded_at c.args.self.now.head.size
  at-is = given_out c.args.self.now.head.size _ _ known.sides_served c.recorded_at-at.ensures

  end-is : c.work_bytes-end.result ≡ work_bytes c.args.self.now.head.size
  end-is = given_out c.args.self.now.head.size _ _ known.sides_served c.work_bytes-end.ensures

  inside : c.work_bytes-end.result ≤ length c.read_picture-maps.new.space
  inside = omega (arith, end-is, c.requires, c.read_picture-maps.auto.space)

pub read_picture-maps-requires : goal.read_picture-maps-requires
read_picture-maps-requires c = picture-fits c.args.self.now.head.size (length c.args.work.now) c.requires

pub slice_bounds-fill-end : goal.slice_bounds-fill-end
slice_bounds-fill-end c = inside (goal.at.slice_bounds-fill-end c).After-read_picture-maps

pub fill-requires-clause-size : goal.fill-requires-clause-size
fill-requires-clause-size c = let f = c.args.self.now in pairs-rows (opened f.text.now f.head f.open)

pub fill-requires-clause-room : goal.fill-requires-clause-room
fill-requires-clause-room c =
    let k = (goal.at.fill-requires-clause-room c).After-read_picture-maps in
    omega (arith, pairs-long (known k), at-is k, end-is k, part_length c.recorded_at-at.result c.work_bytes-end.result c.read_picture-maps.new.space (inside k))

pub returns : goal.returns
returns c =
    let k = (goal.at.returns c).After-read_picture-maps in
    map-judged _ _ (known k) c.args.work.now c.requires c.read_picture-maps.new.space c.read_picture-maps.auto.space
    c.read_picture-maps.ensures.space_is c.recorded_at-at.result c.work_bytes-end.result (at-is k) (end-is k)
    c.fill.new.space c.fill.auto.space c.fill.ensures.filled _ _ c.judge_in.ensures
