use Rattle.std.proofs.Common.{◌≡◌, map, take}
use Rattle.spec_lbnf.specs.Expansion.{item_symbol}
use Rattle.lbnf_grammar.specs.Tables.{shown}
use Rattle.lbnf_grammar.proofs.numbering.symbols_of.Given as goal

-- the symbols are those of the items so far
abbrev pub invariant-loop-item : goal.invariant-loop-item
invariant-loop-item l = l.symbols.items ≡ map (item_symbol (shown l.tables)) (take l.item-index l.items)
