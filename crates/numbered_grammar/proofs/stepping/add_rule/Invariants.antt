use Rattle.std.proofs.Common.{take}
use Rattle.number_graph.specs.Graphs.{AddsLinks}
use Rattle.numbered_grammar.specs.StepLinks.{IsStepOfItems}
use Rattle.numbered_grammar.proofs.stepping.add_rule.Given as goal

-- the items so far have made their steps
abbrev pub invariant-loop-item : goal.invariant-loop-item
invariant-loop-item l =
    AddsLinks (IsStepOfItems l.flags l.rule.category l.non_nullable (take l.item-index l.items)) l.fn.links l.links
