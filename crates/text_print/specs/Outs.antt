-- What a lent space takes.
use Rattle.std.specs.Prelude.{Option, None, Some, ℕ, ◌+◌, cond, ltb, length, slice_set}
use Rattle.text_print.specs.declared.printing.Out.{Out}

-- The byte written at the place, and the place after it; none where the space ends.
abbrev pub out_takes : Out → ℕ → Option Out
out_takes s b = cond (ltb s.at (length s.space.now)) (Some (record { space = record s.space { now = slice_set s.space.now s.at b }; at = s.at + 1 })) None
