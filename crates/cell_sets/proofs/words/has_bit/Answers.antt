use Rattle.cell_sets.proofs.WordsLemmas.{bit_tested}
use Rattle.cell_sets.proofs.words.has_bit.Goals as goal

pub returns : goal.returns
returns c = bit_tested c.args.words.now c.args.symbol
