use Rattle.std.proofs.Common.{◌≡◌, take}
use Rattle.lbnf_grammar.proofs.texts.copy_items.Given as goal

-- the copy has the items so far
abbrev pub invariant-loop-item : goal.invariant-loop-item
invariant-loop-item l = l.copy ≡ take l.item-index l.items
