-- `seam_find::down::down` meets its contract: one row more keeps the invariant.
use Rattle.std.proofs.Common.{ℕ, ◌≤◌, get_or, take, arith, Fits, w8, rules}
use Rattle.pictures.proofs.Limits.{sides_are}
use Rattle.seam_find.proofs.BeforeRow.{before-first, before-needed, before-next}
use Rattle.seam_find.proofs.Priced.{small}
use Rattle.seam_find.proofs.down.down.Goals as goal

pub loop-i-init : goal.loop-i-init
loop-i-init g c =
    let a = c.args in
    let z = a.allowed.size in
    before-first c.requires.rows (sides_are z a.allowed.allowed).height_some (c.requires.laws.wide z a.method (take (g.C.Costing.front z) a.space.now))

pub row_down-requires : goal.row_down-requires
row_down-requires g c =
    let a = c.args in
    let z = a.allowed.size in
    let l = c.loop-i in
    let fits : (i : ℕ) → Fits w8 (get_or a.space.now i 0) = search rules in
    let byte : (i : ℕ) → get_or a.space.now i 0 ≤ 255 = λ i. omega (arith, fits i) in
    rw c.requires.laws.ends
    (before-needed c.requires.rows (sides_are z a.allowed.allowed).height_some
    (c.requires.laws.wide z a.method (take (g.C.Costing.front z) a.space.now)) l.invariant c.loop-i-test.true
    (small c.requires.laws z a.method a.space.now a.allowed.allowed (omega (arith, c.requires.rows.room)) byte l.i l.space _ l.invariant.downs
    l.invariant.some c.loop-i-test.true))

pub loop-i-preserved : goal.loop-i-preserved
loop-i-preserved g c =
    let a = c.args in
    let z = a.allowed.size in
    let kept = c.row_down.auto in
    before-next c.requires.rows (sides_are z a.allowed.allowed).height_some
    (c.requires.laws.wide z a.method (take (g.C.Costing.front z) a.space.now)) c.loop-i.invariant c.loop-i-test.true (rw c.requires.laws.ends at c.row_down.ensures)
    kept.energies kept.steps kept.next
