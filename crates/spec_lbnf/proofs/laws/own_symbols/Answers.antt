use Rattle.spec_lbnf.proofs.SymbolLemmas.{own_symbols}
use Rattle.spec_lbnf.proofs.laws.own_symbols.Goals as goal

pub returns : goal.returns
returns c = own_symbols
