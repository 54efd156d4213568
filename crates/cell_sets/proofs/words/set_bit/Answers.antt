use Rattle.cell_sets.proofs.WordsLemmas.{bit_added}
use Rattle.cell_sets.proofs.words.set_bit.Goals as goal

pub returns-clause-adds : goal.returns-clause-adds
returns-clause-adds c = bit_added c.args.words.now c.args.symbol c.requires
