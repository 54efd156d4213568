use Rattle.std.proofs.Common.{◌≡◌, ◌+◌, ◌<◌, ◌^◌, ◌++◌, drop, map}
use Rattle.spec_automata.specs.Encoding.{one_of_these}
use Rattle.spec_automata.specs.Positions.{position_count}
use Rattle.lbnf_regex.specs.Owners.{owners_from}
use Rattle.lbnf_regex.specs.Patterns.{bytes_of_pattern}
use Rattle.lbnf_regex.proofs.owner.owners.Given as goal

-- the owners so far and those of the kinds that are left are all
abbrev pub invariant-loop-place : goal.invariant-loop-place
invariant-loop-place l = record {
  room : l.first + position_count (one_of_these (map bytes_of_pattern (drop l.place l.kinds))) < 2 ^ 32;
  rest : l.owners ++ owners_from (map bytes_of_pattern (drop l.place l.kinds)) l.place l.first
      ≡ owners_from (map bytes_of_pattern l.kinds) 0 0;
}
