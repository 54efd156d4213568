-- A rule has no more items than there are symbols.
use Rattle.std.proofs.Common.{arith}
use Rattle.first_tree.proofs.DerivationLemmas.{items_within}
use Rattle.first_tree.proofs.rest.rest_behind.Goals as goal

pub overflow_add-result : goal.overflow_add-result
overflow_add-result g c =
    let few = items_within c.args.bin.now c.args.rest.rule c.args.rule.now c.requires.rule in
    record { fits = omega (arith, few, c.requires.place, c.symbol_count.ensures.few, c.symbol_count.ensures.count) }
