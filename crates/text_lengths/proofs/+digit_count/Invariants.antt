use Rattle.text_lengths.proofs.+digit_count.Given as goal

abbrev pub decreases-digit_count : goal.decreases-digit_count
decreases-digit_count l = l.n
