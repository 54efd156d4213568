use Rattle.std.proofs.Common.{◌+◌, take}
use Rattle.spec_grammar.specs.Grammars.{item_count}
use Rattle.binary_form.specs.Rows.{AreRowsUpTo}
use Rattle.binary_form.proofs.rows.add_rule.Given as goal

-- the rows are those of the rules before and of the items so far
abbrev pub invariant-loop-p : goal.invariant-loop-p
invariant-loop-p l =
    AreRowsUpTo l.grammar (item_count (take l.r (l.grammar).rules) + l.p) (l.rows).items
