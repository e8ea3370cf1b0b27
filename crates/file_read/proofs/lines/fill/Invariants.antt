-- `file_read::lines::fill` meets its contract. The invariant: r parts of the space are filled, and at the place stands line r.
use Rattle.std.proofs.Common.{◌≡◌, drop}
use Rattle.file_read.proofs.Filled.{FilledTo}
use Rattle.file_read.proofs.lines.fill.Given as goal

abbrev pub invariant-loop-r : goal.invariant-loop-r
invariant-loop-r g l =
    record {
      there : drop l.here.at (g.L.Lines.text l.lines) ≡ g.L.Lines.from l.lines l.r;
      filled : FilledTo (g.L.Lines.whole l.lines) l.initial.space l.long l.r l.space;
    }
