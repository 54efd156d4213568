use Rattle.std.proofs.Common.{arith}
use Rattle.std.proofs.lemmas.Bool.Decides.{nat_tests}
use Rattle.std.proofs.lemmas.Result.{on_ok_weaker}
use Rattle.numbered_grammar.proofs.StepLinkLemmas.{item_links}
use Rattle.numbered_grammar.proofs.stepping.add_item.Goals as goal

pub returns-in-Category : goal.returns-in-Category
returns-in-Category c =
    on_ok_weaker c.add_if.result
    (item_links c.args.flags.now c.args.links.now c.add_if.new.self c.args.category c.args.non_nullable c.in-Category.b c.args.item
    _ c.in-Category.is (grind (arith, nat_tests, c.one_if_non_nullable.ensures)))
    c.add_if.ensures.ok
