use Rattle.std.proofs.Common.{◌≡◌}
use Rattle.binary_form.specs.Symbols.{first_suffix}
use Rattle.binary_form.proofs.numbering.symbol_count.Given as goal

-- the symbols so far are the categories, the kinds and the items of the rules so far
abbrev pub invariant-loop-rule : goal.invariant-loop-rule
invariant-loop-rule l = l.count ≡ first_suffix l.grammar l.rule-index
