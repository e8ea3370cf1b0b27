-- The opening bracket, the first sample, each further one after a blank, the closing bracket.
use mathlib.Core.Path.{◌≡◌, ◌∙◌}
use Rattle.std.proofs.Common.{length, rules}
use Rattle.text_print.specs.Outs.{out_takes}
use Rattle.text_print.proofs.PixelRows.{no_bracket, no_first, no_others, whole_pixel}
use Rattle.text_print.proofs.printing.Out.pixel.Goals as goal

pub returns-in_err-byte : goal.returns-in_err-byte
returns-in_err-byte c =
    let three : length c.args.pixel ≡ 3 = search rules in
    c.from_residual.ensures ∙ no_bracket out_takes c.args.self c.args.pixel three c.in_err-byte.ensures

pub returns-in_err-number : goal.returns-in_err-number
returns-in_err-number c =
    let three : length c.args.pixel ≡ 3 = search rules in
    c.from_residual-in_err-number.ensures ∙ no_first out_takes c.args.self c.args.pixel three c.in_ok-byte.ensures c.in_err-number.ensures

pub returns-in_err-samples : goal.returns-in_err-samples
returns-in_err-samples c =
    let three : length c.args.pixel ≡ 3 = search rules in
    c.from_residual-in_err-samples.ensures
    ∙ no_others out_takes c.args.self c.args.pixel three c.in_ok-byte.ensures c.in_ok-number.ensures c.in_err-samples.ensures

pub returns : goal.returns
returns c =
    let three : length c.args.pixel ≡ 3 = search rules in
    c.byte-2.ensures ∙ whole_pixel out_takes c.args.self c.args.pixel three c.in_ok-byte.ensures c.in_ok-number.ensures c.in_ok-samples.ensures
