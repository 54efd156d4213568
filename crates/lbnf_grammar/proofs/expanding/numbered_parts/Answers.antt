use Rattle.lbnf_grammar.proofs.CountLemmas.{are_few}
use Rattle.lbnf_grammar.proofs.expanding.numbered_parts.Goals as goal

pub parts_by-requires-clause-few : goal.parts_by-requires-clause-few
parts_by-requires-clause-few c = are_few c.args.defs.now c.requires.limits.few c.requires.few_rules
