-- The blank is taken, then the pixel; the text goes on from the next.
use mathlib.Core.Path.{◌≡◌, sym, ap, ◌∙◌}
use Rattle.std.specs.Prelude.{[], get_or}
use Rattle.pictures.specs.declared.sizes.Kind.TheVariants.{Rgb}
use Rattle.text_theory.specs.Files.{blank, each, pixel_text}
use Rattle.text_lengths.specs.Sinks.{puts}
use Rattle.text_lengths.specs.Rooms.{pixels_of}
use Rattle.text_print.specs.Outs.{out_takes}
use Rattle.text_print.proofs.Items.{no_blank, no_item, next_item, each_done, same_at, blank_taken}
use Rattle.text_print.proofs.PixelRows.{rgb_pixels}
use Rattle.text_print.proofs.printing.OutSink.pixels.Goals as goal
use Rattle.text_print.proofs.printing.OutSink.pixels.Goals.{After-as_chunks}

-- The chunks are the pixels.
text : (c : After-as_chunks) → puts out_takes c.args.self (each blank (pixel_text Rgb) c.as_chunks.result.0.now)
    ≡ puts out_takes c.args.self (each blank (pixel_text Rgb) (pixels_of Rgb c.args.samples.now))
text c = ap (λ p. puts out_takes c.args.self (each blank (pixel_text Rgb) p)) (c.as_chunks.ensures.front ∙ sym (rgb_pixels c.args.samples.now))

pub returns-in_err-byte : goal.returns-in_err-byte
returns-in_err-byte c =
    let l = c.loop-pixel in
    let xs = c.as_chunks.result.0.now in
    c.from_residual.ensures
    ∙ no_blank _ _ _ _ l.invariant c.loop-pixel-test.true (same_at xs l.pixel-index [] (get_or xs l.pixel-index []) c.loop-pixel-test.true)
    (c.in_err-byte.ensures ∙ blank_taken out_takes l.after)
    ∙ text (goal.at.returns-in_err-byte c).After-as_chunks

pub returns-in_err-after : goal.returns-in_err-after
returns-in_err-after c =
    let l = c.loop-pixel in
    let xs = c.as_chunks.result.0.now in
    c.from_residual-in_err-after.ensures
    ∙ no_item _ _ _ _ l.invariant c.loop-pixel-test.true (same_at xs l.pixel-index [] (get_or xs l.pixel-index []) c.loop-pixel-test.true)
    (c.in_ok-byte.ensures ∙ blank_taken out_takes l.after) c.in_err-after.ensures
    ∙ text (goal.at.returns-in_err-after c).After-as_chunks

pub loop-pixel-preserved : goal.loop-pixel-preserved
loop-pixel-preserved c =
    let l = c.loop-pixel in
    let xs = c.as_chunks.result.0.now in
    next_item _ _ _ _ l.invariant c.loop-pixel-test.true (same_at xs l.pixel-index [] (get_or xs l.pixel-index []) c.loop-pixel-test.true)
    (c.in_ok-byte.ensures ∙ blank_taken out_takes l.after) c.in_ok-after.ensures

pub returns : goal.returns
returns c = each_done _ _ _ _ c.loop-pixel.invariant c.loop-pixel-test.false ∙ text (goal.at.returns c).After-as_chunks
