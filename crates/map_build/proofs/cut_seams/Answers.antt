-- `map_build::cut_seams` meets its contract: the work and the map stand apart, and what is left of the picture ends within the work.
use mathlib.Core.Path.{◌≡◌, ap, ◌∙◌}
use Prim.Native.Nat.{◌-◌, ◌*◌, ◌≤◌}
use lib.ListN.{length, take, drop}
use Rattle.map_rules.specs.Spaces.{map_at, map_bytes}
use Rattle.map_build.proofs.Mapped.{left_within, mapped_is}
use Rattle.map_build.proofs.cut_seams.Goals as goal
use Rattle.map_build.proofs.cut_seams.Goals.{After-carve}
use Rattle.std.proofs.Common.{rules}

-- the work is as long as all that stands before the maps
long : (c : After-carve) → length c.carve.new.work ≡ map_at c.args.allowed.size
long c = c.carve.auto.work ∙ c.split_at_mut-work.ensures.front_len ∙ c.map_at.ensures

inside : (c : After-carve) → c.args.allowed.size.height * ((c.args.allowed.size.width - c.args.depth) * c.pixel_bytes.result) ≤ length c.carve.new.work
inside c = rw (c.pixel_bytes.ensures, long c) (left_within c.args.allowed.size c.args.depth)

pub slice_bounds-clear-count : goal.slice_bounds-clear-count
slice_bounds-clear-count c = inside (goal.at.slice_bounds-clear-count c).After-carve

pub slice_bounds-clear-start : goal.slice_bounds-clear-start
slice_bounds-clear-start c = let l = inside (goal.at.slice_bounds-clear-start c).After-carve in search (rules, l)

pub returns : goal.returns
returns c =
    let a = c.args in
    let z = a.allowed.size in
    let split = c.split_at_mut-work in
    let k = c.carve in
    let r = (goal.at.returns c).After-carve in
    let front = split.ensures.front ∙ ap (λ n. take n a.space.now) c.map_at.ensures in
    let given = rw front at k.ensures in
    let whole = mapped_is z a.method a.depth a.space.now k.new.work k.new.map c.clear.new.space (z.height * ((z.width - a.depth) * c.pixel_bytes.result)) (ap (λ n. z.height * ((z.width - a.depth) * n)) c.pixel_bytes.ensures)
    (long r) (inside r) given c.clear.ensures in
    let back : drop (2 * c.pixels-bytes.result) split.result.1.now ≡ drop (map_bytes z) (drop (map_at z) a.space.now) =
    ap (λ n. drop (2 * n) split.result.1.now) c.pixels-bytes.ensures.0 ∙ ap (drop (map_bytes z)) (split.ensures.back ∙ ap (λ n. drop n a.space.now) c.map_at.ensures) in
    record { space_left = rw back whole }
