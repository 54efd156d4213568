-- A rule has no more items than there are symbols.
use Rattle.std.proofs.Common.{arith}
use Rattle.first_tree.proofs.DerivationLemmas.{items_within}
use Rattle.first_tree.proofs.search.item_count.Goals as goal

pub overflow_cast-result : goal.overflow_cast-result
overflow_cast-result g c =
    let few = items_within c.args.grammar.now c.args.number c.rule.result.now c.rule.ensures in
    omega (arith, rw c.requires.same at few, c.symbol_count.ensures.few, c.symbol_count.ensures.count)
