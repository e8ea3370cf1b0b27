use Rattle.text_theory.specs.Files.{line_end, blank, opening, closed}
use Rattle.text_print.proofs.texts.MarkText.put.Goals as goal

pub returns-in-Opening : goal.returns-in-Opening
unfolding opening
returns-in-Opening g c = rw c.in-Opening.is c.put.ensures

pub returns-in-Blank : goal.returns-in-Blank
unfolding blank
returns-in-Blank g c = rw c.in-Blank.is c.put-in-Blank.ensures

pub returns-in-LineEnd : goal.returns-in-LineEnd
unfolding line_end
returns-in-LineEnd g c = rw c.in-LineEnd.is c.put-in-LineEnd.ensures

pub returns-in-Closed : goal.returns-in-Closed
unfolding closed
returns-in-Closed g c = rw c.in-Closed.is c.put-in-Closed.ensures
