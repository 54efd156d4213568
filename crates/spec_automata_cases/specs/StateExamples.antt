-- The sets of positions of a word, and how far a lexer of it reads, by hand.
use Rattle.std.specs.Prelude.{codes}
use Rattle.spec_automata.specs.Lookahead.{IsReadCount}
use Rattle.spec_automata.specs.States.{HasManySets}
use Rattle.spec_automata_cases.specs.PositionExamples.{word_ab}

-- the sets and the lookahead of the word ab
pub record CountsStates : Type 0 where
  -- beside the start there are two sets
  pub two_sets : HasManySets word_ab 2
  -- another byte is read, and no more
  pub other_byte : IsReadCount word_ab (codes "ba") 1
  pub second_byte : IsReadCount word_ab (codes "aa") 2
  -- at the end of the text all is read, and the end is met
  pub at_the_end : IsReadCount word_ab (codes "a") 2
