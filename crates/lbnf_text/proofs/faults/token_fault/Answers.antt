use Rattle.lbnf_text.proofs.faults.token_fault.Goals as goal

pub returns-in-Word : goal.returns-in-Word
returns-in-Word c = rw c.in-Word.ensures c.second_fault.ensures

pub returns-in-TwoWords : goal.returns-in-TwoWords
returns-in-TwoWords c = rw c.in-TwoWords.ensures c.third_fault.ensures
