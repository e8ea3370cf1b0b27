-- `map_show::rows::keep_row` meets its contract.
use mathlib.Core.Path.{◌≡◌, refl, sym, ◌∙◌}
use Prim.Native.Nat.{◌+◌}
use lib.ListN.{get_or}
use Rattle.map_theory.specs.Widths.{stays}
use Rattle.map_show.proofs.Filling.{fill_size}
use Rattle.map_show.proofs.Keeps.{Keeping, keep-start, keep-needed, keep-put, keep-pass, keep-end}
use Rattle.map_show.proofs.rows.keep_row.Goals as goal
use Rattle.map_show.proofs.rows.keep_row.Goals.{then-stays, else-stays}

pub loop-c-init : goal.loop-c-init
loop-c-init g c =
    let a = c.args in
    (refl, keep-start g.row.N a.samples.now a.numbers.now c.requires.whole a.t a.out.now c.requires.room)

pub put_pixel-requires : goal.put_pixel-requires
put_pixel-requires g c =
    let a = c.args in
    let l = c.loop-c in
    keep-needed g.row.N a.samples.now a.numbers.now c.requires.whole a.t a.out.now l.c l.out l.at c.loop-c-test.true (sym c.stays.ensures ∙ c.if-stays.true) l.invariant.1

pub loop-c-preserved : goal.loop-c-preserved
loop-c-preserved g c =
    let a = c.args in
    let l = c.loop-c in
    let test : stays a.t (get_or a.numbers.now l.c 0) ≡ c.stays.result = sym c.stays.ensures in
    let f : Keeping g.row.N a.samples.now a.numbers.now a.t a.out.now (l.c + 1) c.if-stays.out c.if-stays.at =
    elim c.if-stays.branch [
      | then-stays w ↦
          rw (w.out-is, w.at-is, w.put_pixel.ensures)
          (keep-put g.row.N a.samples.now a.numbers.now c.requires.whole a.t a.out.now l.c l.out l.at c.loop-c-test.true refl (test ∙ w.if-stays.true) l.invariant.1)
      | else-stays w ↦
          rw (w.out-is, w.at-is)
          (keep-pass g.row.N a.samples.now a.numbers.now c.requires.whole a.t a.out.now l.c l.out l.at c.loop-c-test.true (test ∙ w.if-stays.false) l.invariant.1)
    ] in
    (fill_size f, f)

pub returns : goal.returns
returns g c =
    let a = c.args in
    let l = c.loop-c in
    keep-end g.row.N a.samples.now a.numbers.now c.requires.whole a.t a.out.now l.c l.out l.at c.loop-c-test.false l.invariant.1
