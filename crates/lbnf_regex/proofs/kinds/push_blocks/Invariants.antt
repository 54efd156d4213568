use Rattle.std.proofs.Common.{◌≡◌, ◌++◌, map, take}
use Rattle.spec_lexing.specs.Kinds.{block_comment}
use Rattle.spec_automata.specs.Encoding.{bytes_of_kind}
use Rattle.lbnf_regex.specs.Patterns.{bytes_of_pattern}
use Rattle.lbnf_regex.proofs.kinds.push_blocks.Given as goal

-- the patterns so far
abbrev pub invariant-loop-words : goal.invariant-loop-words
invariant-loop-words l =
    map bytes_of_pattern l.patterns ≡ map bytes_of_pattern l.fn.patterns ++ map (λ words. bytes_of_kind (block_comment words.0 words.1)) (take l.words-index l.blocks)
