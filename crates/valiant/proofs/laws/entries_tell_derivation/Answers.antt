-- A number is that of one symbol alone.
use Rattle.valiant.proofs.LawLemmas.{entries_tell_derivation, entries_are_of_symbols}
use Rattle.valiant.proofs.laws.entries_tell_derivation.Goals as goal

pub returns-clause-tell : goal.returns-clause-tell
returns-clause-tell c = entries_tell_derivation

pub returns-clause-below : goal.returns-clause-below
returns-clause-below c = entries_are_of_symbols
