use Rattle.std.proofs.Common.{length}
use Rattle.numbered_grammar.specs.StepLinks.{AreStepsSoFar}
use Rattle.numbered_grammar.proofs.stepping.category_steps.Given as goal

-- the rules so far have made their steps
abbrev pub invariant-loop-rule : goal.invariant-loop-rule
invariant-loop-rule l =
    AreStepsSoFar l.nullable l.parts.rules l.rule-index (length l.parts.categories) l.links
