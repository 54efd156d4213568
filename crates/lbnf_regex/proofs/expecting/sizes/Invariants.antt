use Rattle.std.proofs.Common.{◌≡◌, ◌<◌, ◌^◌, drop, map, take}
use Rattle.spec_automata.specs.Encoding.{one_of_these}
use Rattle.spec_automata.specs.Positions.{position_count}
use Rattle.lbnf_regex.specs.Patterns.{bytes_of_pattern, sizes_of}
use Rattle.lbnf_regex.proofs.expecting.sizes.Given as goal

-- the sizes of the patterns so far
abbrev pub invariant-loop-pattern : goal.invariant-loop-pattern
invariant-loop-pattern l = record {
  room : position_count (one_of_these (map bytes_of_pattern (drop l.pattern-index l.patterns))) < 2 ^ 32;
  are : l.sizes ≡ sizes_of (take l.pattern-index l.patterns);
}
