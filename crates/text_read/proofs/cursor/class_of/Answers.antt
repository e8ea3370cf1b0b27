-- `text_read::cursor::class_of` meets its contract: each arm by the byte or the range that it matches.
use Rattle.std.proofs.Common.{refl, arith, inl, inr}
use Rattle.text_theory.specs.Decimal.{is_digit}
use Rattle.text_read.specs.Answers.{is_letter, class_of}
use Rattle.text_read.proofs.ByteClasses.{class_digit, class_letter, class_other}
use Rattle.text_read.proofs.cursor.class_of.Goals as goal

pub returns-in-40 : goal.returns-in-40
unfolding class_of is_digit is_letter
returns-in-40 c = rw c.in-40.is

pub returns-in-41 : goal.returns-in-41
unfolding class_of is_digit is_letter
returns-in-41 c = rw c.in-41.is

pub returns-in-32 : goal.returns-in-32
unfolding class_of is_digit is_letter
returns-in-32 c = rw c.in-32.is

pub returns-in-10 : goal.returns-in-10
unfolding class_of is_digit is_letter
returns-in-10 c = rw c.in-10.is

pub returns-in-48-to-57 : goal.returns-in-48-to-57
returns-in-48-to-57 c = class_digit _ _ (omega arith) (omega arith) refl

pub returns-in-97-to-122 : goal.returns-in-97-to-122
returns-in-97-to-122 c = class_letter _ (omega arith) (omega arith)

pub returns-in_default : goal.returns-in_default
returns-in_default c = class_other _ (inl (omega arith)) (inl (omega arith)) (omega arith) (omega arith) (omega arith) (omega arith)

pub returns-in_default-2 : goal.returns-in_default-2
returns-in_default-2 c = class_other _ (inr (omega arith)) (inl (omega arith)) (omega arith) (omega arith) (omega arith) (omega arith)

pub returns-in_default-3 : goal.returns-in_default-3
returns-in_default-3 c = class_other _ (inr (omega arith)) (inr (omega arith)) (omega arith) (omega arith) (omega arith) (omega arith)
