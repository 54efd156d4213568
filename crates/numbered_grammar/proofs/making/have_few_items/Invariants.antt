use Rattle.std.proofs.Common.{◌≡◌, ◌+◌, ◌^◌, take}
use Rattle.spec_grammar.specs.Grammars.{item_count}
use Rattle.numbered_grammar.proofs.making.have_few_items.Given as goal

-- the items so far and the room are one less than the limit
abbrev pub invariant-loop-rule : goal.invariant-loop-rule
invariant-loop-rule l = l.room + item_count (take l.rule-index l.rules) + 1 ≡ 2 ^ 31
