-- `seam_moves::between::exchange_places` meets its contract: the exchanged picture is put at its place in the half that is written.
use Rattle.grids.specs.Exchange.{exchange}
use Rattle.pictures.specs.Pictures.{picture_bytes, picture, bytes}
use Rattle.seam_moves.proofs.Places.{into_back}
use Rattle.seam_moves.proofs.between.exchange_places.Goals as goal

pub returns-then-from-to : goal.returns-then-from-to
returns-then-from-to c =
    let a = c.args in
    let z = a.allowed.size in
    let cut = c.split_at_mut-front in
    into_back a.space.now a.from (picture_bytes z) a.to c.requires (λ b. bytes z.kind (exchange z.width (picture z b))) _ c.picture_bytes-all.ensures.0
    cut.result.0.now cut.result.1.now c.exchange_pixels.new.to c.if-from-to.true cut.ensures.front cut.ensures.back c.exchange_pixels.ensures
