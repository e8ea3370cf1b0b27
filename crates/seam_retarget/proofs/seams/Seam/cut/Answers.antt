-- `seam_retarget::seams::Seam::cut` meets its contract.
use mathlib.Core.Path.{◌≡◌, sym, ap, ◌∙◌}
use Prim.Native.Nat.{ℕ}
use Rattle.pictures.specs.declared.sizes.Size.{Size}
use Rattle.pictures.specs.Pictures.{picture_bytes}
use Rattle.seam_rules.specs.declared.answers.Axis.{Axis}
use Rattle.seam_rules.specs.Axes.{turned_size, narrowed}
use Rattle.seam_rules.proofs.Turns.{turned-bytes}
use Rattle.seam_retarget.proofs.Cuts.{closed_ok, back_places, cut-given}
use Rattle.seam_retarget.proofs.seams.Seam.cut.Goals as goal

-- the turned picture has the same bytes
all_is : (x : Axis) (z : Size) (all : ℕ) → all ≡ picture_bytes z → all ≡ picture_bytes (turned_size x z)
all_is x z all is = is ∙ sym (turned-bytes x z)

pub unwrap-requires : goal.unwrap-requires
unwrap-requires c =
    let a = c.args in
    let s = a.self in
    let closed = c.close_up in
    closed_ok a.work.now s.at s.size.size s.axis a.seam.now a.to s.size.allowed c.requires _ (all_is s.axis s.size.size _ c.picture_bytes.ensures.0)
    closed.result closed.new.picture (rw c.turned_size-over.ensures at closed.ensures) closed.auto.picture

pub turn-requires : goal.turn-requires
turn-requires c =
    let a = c.args in
    let s = a.self in
    let closed = c.close_up in
    rw (c.narrower.ensures ∙ ap narrowed c.turned_size-over.ensures)
    (back_places a.work.now s.at s.size.size s.axis a.seam.now a.to s.size.allowed c.requires _ (all_is s.axis s.size.size _ c.picture_bytes.ensures.0)
    closed.result closed.new.picture (rw c.turned_size-over.ensures at closed.ensures) closed.auto.picture)

pub returns : goal.returns
returns c =
    let a = c.args in
    let s = a.self in
    let closed = c.close_up in
    let n = c.narrower.ensures ∙ ap narrowed c.turned_size-over.ensures in
    cut-given a.work.now s.at s.size.size s.axis a.seam.now a.to s.size.allowed c.requires _ (all_is s.axis s.size.size _ c.picture_bytes.ensures.0)
    closed.result closed.new.picture (rw c.turned_size-over.ensures at closed.ensures) closed.auto.picture c.turn.new.work (rw n at c.turn.ensures)
