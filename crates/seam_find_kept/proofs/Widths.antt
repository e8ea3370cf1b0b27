-- Numbers of two bytes, and of four, as sums are kept in them.
use mathlib.Core.Path.{ap, ◌∙◌}
use native.Mathlib.Nat.{mul_comm}
use native.Mathlib.Omega.{arith}
use lib.ListN.{take}
use Rattle.pictures.specs.Numbers.{largest_number, numbers_in}
use Rattle.pictures.proofs.TwoBytes.{length-numbers, numbers-take, numbers_append}
use Rattle.seam_find_kept.specs.Inner.Kept.{words_in, SumLaws}
use Rattle.seam_sums.specs.Fences.{largest_word}
use Rattle.seam_find_kept.proofs.FourBytes.{length-words, words-take, words_append}

pub pair-laws : SumLaws 2 largest_number numbers_in
pair-laws = record {
  some = omega arith;
  few = omega arith;
  costs = omega arith;
  one = λ b h. omega (arith, length-numbers b, h);
  long = λ m b h. omega (arith, length-numbers b, h);
  front = λ m b. ap (λ n. numbers_in (take n b)) (mul_comm m 2) ∙ numbers-take m b;
  joined = λ m x y h. numbers_append m x y (omega (arith, h));
}

pub word-laws : SumLaws 4 largest_word words_in
word-laws = record {
  some = omega arith;
  few = omega arith;
  costs = omega arith;
  one = λ b h. omega (arith, length-words b, h);
  long = λ m b h. omega (arith, length-words b, h);
  front = λ m b. ap (λ n. words_in (take n b)) (mul_comm m 4) ∙ words-take m b;
  joined = λ m x y h. words_append m x y (omega (arith, h));
}
