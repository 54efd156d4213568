-- The rules that are made of a definition. Serves the proofs alone.
use Rattle.std.specs.Prelude.{List, []}
use Rattle.spec_lbnf.specs.declared.definition.RawRule.{RawRule}
use Rattle.spec_lbnf.specs.declared.definition.Def.{Def}
use Rattle.spec_lbnf.specs.declared.definition.Def.TheVariants.{Rule as RuleDef}
use Rattle.spec_lbnf.specs.Expansion.{rules_of_def}

-- the rules that the definition gives, and none of a definition that is a rule itself
abbrev pub made_rules : Def → List RawRule
made_rules (RuleDef rule) = []
made_rules other = rules_of_def other
