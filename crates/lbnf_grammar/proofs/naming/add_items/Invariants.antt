use Rattle.std.proofs.Common.{◌≡◌, ◌++◌, take}
use Rattle.spec_lbnf.specs.Expansion.{item_categories}
use Rattle.lbnf_grammar.proofs.naming.add_items.Given as goal

-- the categories among the items so far are added
abbrev pub invariant-loop-item : goal.invariant-loop-item
invariant-loop-item l = l.names.items ≡ l.fn.names.items ++ item_categories (take l.item-index l.items)
