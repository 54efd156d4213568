use Rattle.std.proofs.Common.{◌≡◌, ◌++◌, map, take}
use Rattle.spec_automata.specs.Encoding.{bytes_of_def}
use Rattle.lbnf_regex.specs.Patterns.{bytes_of_pattern}
use Rattle.lbnf_regex.proofs.kinds.push_kinds.Given as goal

-- the patterns so far
abbrev pub invariant-loop-kind : goal.invariant-loop-kind
invariant-loop-kind l =
    map bytes_of_pattern l.patterns ≡ map bytes_of_pattern l.fn.patterns ++ map (bytes_of_def) (take l.kind-index l.kinds)
