use Rattle.std.proofs.Common.{◌↔◌, IsTrue, take}
use Rattle.spec_lbnf.specs.Expansion.{categories_in}
use Rattle.lbnf_grammar.specs.Checking.{EndsInList}
use Rattle.lbnf_grammar.proofs.labels.ends_in_list.Given as goal

-- it is told whether the last of the items so far that are no words is a list
abbrev pub invariant-loop-item : goal.invariant-loop-item
invariant-loop-item l = IsTrue l.is_list ↔ EndsInList (categories_in (take l.item-index l.items))
