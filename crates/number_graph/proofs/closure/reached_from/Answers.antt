use Rattle.std.proofs.lemmas.List.Sorted.{IsNonDecreasingBy-from_sort}
use Rattle.number_graph.proofs.FlagLemmas.{reached_from_one}
use Rattle.number_graph.proofs.closure.reached_from.Goals as goal

pub returns : goal.returns
returns c =
    let found = c.in_ok-numbers.field-0 in
    let sorted = c.sort_unstable.new.self.items in
    reached_from_one c.args.links.now c.args.from found.flags.items found.numbers.items sorted
    c.in_ok-numbers.ensures c.sort_unstable.ensures.permutation
    (IsNonDecreasingBy-from_sort (λ n. n) sorted c.sort_unstable.ensures.sorted)
