use Rattle.numbered_grammar.specs.RuleImplications.{AreOfRules}
use Rattle.numbered_grammar.proofs.nullable.implications_of.Given as goal

-- the implications are those of the rules so far
abbrev pub invariant-loop-rule : goal.invariant-loop-rule
invariant-loop-rule l = AreOfRules l.rules l.rule-index l.implications
