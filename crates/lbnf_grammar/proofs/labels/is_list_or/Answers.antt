use Rattle.std.proofs.Common.{arith}
use Rattle.std.proofs.lemmas.Bool.Decides.{nat_tests}
use Rattle.lbnf_grammar.proofs.LabelLemmas.{list_behind}
use Rattle.lbnf_grammar.proofs.labels.is_list_or.Goals as goal

pub returns-in-Cat : goal.returns-in-Cat
returns-in-Cat c =
    λ cats told. list_behind c.args.item.now c.in-Cat.cat c.in-Cat.is _ (grind (arith, nat_tests)) cats
