use Rattle.spec_lbnf.proofs.SymbolNameLemmas.{one_symbol_each}
use Rattle.spec_lbnf.proofs.laws.one_symbol_each.Goals as goal

pub returns : goal.returns
returns c = one_symbol_each
