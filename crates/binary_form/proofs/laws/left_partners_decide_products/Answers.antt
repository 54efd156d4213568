-- Of two numbers that make a third, one is left of the other.
use Rattle.binary_form.proofs.LeftSideLemmas.{partners_meet, partners_are_enough, products_have_left_symbols}
use Rattle.binary_form.proofs.laws.left_partners_decide_products.Goals as goal

pub returns-clause-meet : goal.returns-clause-meet
returns-clause-meet c = partners_meet

pub returns-clause-enough : goal.returns-clause-enough
returns-clause-enough c = partners_are_enough

pub returns-clause-lefts : goal.returns-clause-lefts
returns-clause-lefts c = products_have_left_symbols
