-- By the counts of items before each rule.
use Rattle.binary_form.proofs.NumberLemmas.{numbers_differ, numbers_below, numbers_used}
use Rattle.binary_form.proofs.laws.each_symbol_has_its_number.Goals as goal

pub returns-clause-differ : goal.returns-clause-differ
returns-clause-differ c = numbers_differ

pub returns-clause-below : goal.returns-clause-below
returns-clause-below c = numbers_below

pub returns-clause-used : goal.returns-clause-used
returns-clause-used c = numbers_used
