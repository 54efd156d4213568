use Rattle.std.proofs.Common.{arith, rules}
use Rattle.cell_sets.proofs.WordsLemmas.{first_none, first_some}
use Rattle.cell_sets.proofs.words.first_bit.Goals as goal

pub returns-then-left-eq0 : goal.returns-then-left-eq0
returns-then-left-eq0 c = first_none c.args.word c.args.from c.if-left-eq0.true

pub returns : goal.returns
returns c = first_some c.args.word c.args.from (omega (arith, c.if-left-eq0.false)) (search rules)
