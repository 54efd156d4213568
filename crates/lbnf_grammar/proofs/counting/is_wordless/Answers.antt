use Rattle.std.proofs.Common.{nat_eq, ◌∙◌, rules, tests}
use Rattle.std.proofs.lemmas.Iterator.{YieldsList-from_slice}
use Rattle.std.proofs.lemmas.Iterator.Search.{all_from_yields_List}
use Rattle.lbnf_grammar.proofs.CountLemmas.{wordless}
use Rattle.lbnf_grammar.proofs.counting.is_wordless.Goals as goal

pub returns : goal.returns
returns c =
    let text = c.args.text.now in
    let all = all_from_yields_List (λ byte. nat_eq byte 32) _ _ c.all.result c.all.ensures.ran (YieldsList-from_slice text cc) (λ x b q k. search (rules, tests)) in
    all ∙ wordless text
