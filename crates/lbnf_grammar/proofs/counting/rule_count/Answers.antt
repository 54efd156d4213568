use Rattle.std.proofs.Common.{arith}
use Rattle.lbnf_grammar.proofs.CountLemmas.{few_defs}
use Rattle.lbnf_grammar.proofs.counting.rule_count.Goals as goal

pub overflow_add-count : goal.overflow_add-count
overflow_add-count c = omega (arith, few_defs c.args.defs.now)
