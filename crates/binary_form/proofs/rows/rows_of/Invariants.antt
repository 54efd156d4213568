use Rattle.std.proofs.Common.{take}
use Rattle.spec_grammar.specs.Grammars.{item_count}
use Rattle.binary_form.specs.Rows.{AreRowsUpTo}
use Rattle.binary_form.proofs.rows.rows_of.Given as goal

-- the rows are those of the rules so far
abbrev pub invariant-loop-r : goal.invariant-loop-r
invariant-loop-r l = AreRowsUpTo l.grammar (item_count (take l.r (l.grammar).rules)) (l.rows).items
