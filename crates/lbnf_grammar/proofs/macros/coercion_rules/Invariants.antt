use Rattle.std.proofs.Common.{◌≡◌, map}
use Rattle.std.specs.List.{range_with_len}
use Rattle.spec_lbnf.specs.Expansion.{level_rule}
use Rattle.lbnf_grammar.proofs.macros.coercion_rules.Given as goal

-- the rules are those of the levels so far
abbrev pub invariant-loop-level : goal.invariant-loop-level
invariant-loop-level l = l.rules.items ≡ map (level_rule l.name) (range_with_len 0 l.level)
