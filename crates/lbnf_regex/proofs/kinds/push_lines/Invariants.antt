use Rattle.std.proofs.Common.{◌≡◌, ◌++◌, map, take}
use Rattle.spec_lexing.specs.Kinds.{line_comment}
use Rattle.spec_automata.specs.Encoding.{bytes_of_kind}
use Rattle.lbnf_regex.specs.Patterns.{bytes_of_pattern}
use Rattle.lbnf_regex.proofs.kinds.push_lines.Given as goal

-- the patterns so far
abbrev pub invariant-loop-opening : goal.invariant-loop-opening
invariant-loop-opening l =
    map bytes_of_pattern l.patterns ≡ map bytes_of_pattern l.fn.patterns ++ map (λ opening. bytes_of_kind (line_comment opening)) (take l.opening-index l.lines)
