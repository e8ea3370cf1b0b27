use Rattle.text_print.proofs.printing.Out.+digits.Given as goal

abbrev pub decreases-digits : goal.decreases-digits
decreases-digits l = l.n
