use Rattle.std.proofs.Common.{subst, ◌∙◌}
use Rattle.spec_grammar.specs.Cycles.{IsAcyclic}
use Rattle.spec_grammar.specs.Grammars.{Grammar}
use Rattle.numbered_grammar.specs.Making.{GivesParts, grammar_of_parts, lexicon_of_parts, entry_of_rules}
use Rattle.numbered_grammar.proofs.grammar.Grammar.of_rules.Goals as goal

pub returns-in-Ok : goal.returns-in-Ok
returns-in-Ok c =
    let g = grammar_of_parts c.args.rules.items c.args.categories.items (lexicon_of_parts c.args.lexicon) (entry_of_rules c.args.rules.items) in
    let given = subst (GivesParts g) c.in-Some.is c.in_ok-made.ensures in
    let made = c.in-Ok.ensures in
    (given.0, subst (λ (x : Grammar). IsAcyclic x.rules) given.1 made.0, made.1 ∙ given.1)
