-- What is left of the text is that of the pixels from the index on.
use Rattle.std.proofs.Common.{◌≡◌, drop}
use Rattle.pictures.specs.declared.sizes.Kind.TheVariants.{Rgb}
use Rattle.text_theory.specs.Files.{blank, each, pixel_text}
use Rattle.text_lengths.specs.Sinks.{puts}
use Rattle.text_print.specs.Outs.{out_takes}
use Rattle.text_print.proofs.printing.OutSink.pixels.Given as goal

abbrev pub invariant-loop-pixel : goal.invariant-loop-pixel
invariant-loop-pixel l = puts out_takes l.fn.self (each blank (pixel_text Rgb) l.pixels) ≡ puts out_takes l.after (each blank (pixel_text Rgb) (drop l.pixel-index l.pixels))
