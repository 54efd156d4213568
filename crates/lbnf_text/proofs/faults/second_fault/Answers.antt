use Rattle.lbnf_text.proofs.faults.second_fault.Goals as goal

pub returns-in-Identifier : goal.returns-in-Identifier
returns-in-Identifier c = rw c.in-Identifier.is c.second_word.ensures
