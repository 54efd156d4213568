use Rattle.std.proofs.Common.{subst}
use Rattle.spec_grammar.specs.Cycles.{IsAcyclic}
use Rattle.spec_grammar.specs.Grammars.{Grammar}
use Rattle.numbered_grammar.proofs.grammar.Grammar.rules.Goals as goal

pub returns-clause-acyclic : goal.returns-clause-acyclic
returns-clause-acyclic c =
    subst (λ (g : Grammar). IsAcyclic g.rules) c.self.view_is c.self.invariant.0
