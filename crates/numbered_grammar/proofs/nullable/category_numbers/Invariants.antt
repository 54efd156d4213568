use Rattle.std.proofs.Common.{take}
use Rattle.numbered_grammar.specs.RuleImplications.{AreCategoryNumbers}
use Rattle.numbered_grammar.proofs.nullable.category_numbers.Given as goal

-- the items so far have their numbers
abbrev pub invariant-loop-item : goal.invariant-loop-item
invariant-loop-item l = AreCategoryNumbers (take l.item-index l.items) (l.numbers).items
