use Rattle.shape_tree.proofs.DigitLemmas.{some_digit, below_digits, no_more_digits}
use Rattle.shape_tree.proofs.laws.digits_are_least.Goals as goal

pub returns : goal.returns
returns c n = (some_digit n, below_digits n, no_more_digits n)
