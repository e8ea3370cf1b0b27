-- `text_scan::count_lines` meets its contract. The invariant is `Lining`: n lines were read, and what is left adds to them. What
-- falls is the number of bytes left.
use Rattle.text_read.proofs.Onward.{told_begun, begun-some}
use Rattle.text_scan.proofs.Counting.{lining-stop, lining-torn, lining-next}
use Rattle.text_scan.proofs.count_lines.Goals as goal

pub returns-in_err-m : goal.returns-in_err-m
returns-in_err-m c =
    rw c.from_residual.ensures
    (lining-torn (begun-some _) c.loop-c.invariant (told_begun _ c.in-Some.ensures) c.in_err-m.ensures)

pub loop-c-preserved : goal.loop-c-preserved
loop-c-preserved c =
    lining-next (begun-some _) c.loop-c.invariant (told_begun _ c.in-Some.ensures) c.in_ok-m.ensures c.stays_full-full.ensures

pub returns : goal.returns
returns c = lining-stop (begun-some _) c.loop-c.invariant (told_begun _ c.in_default.ensures)
