-- All kinds are entered, or none is.
use Rattle.lbnf_regex.proofs.marked.expect_any.Goals as goal

pub returns-then-entered : goal.returns-then-entered
returns-then-entered c = rw c.if-entered.true c.expect_one_of.ensures

pub returns-else-entered : goal.returns-else-entered
returns-else-entered c = rw c.if-entered.false c.expect_marked.ensures
