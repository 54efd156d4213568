use Rattle.numbered_grammar.proofs.RankLemmas.{steps_within, least_cyclic, none_cyclic, heights_are_ranks}
use Rattle.std.proofs.Common.{subst}
use Rattle.number_graph.specs.Chains.{FindsLeastOnCycle}
use Rattle.numbered_grammar.proofs.cycle_check.check_cycles.Goals as goal

pub heights-requires-clause-within : goal.heights-requires-clause-within
heights-requires-clause-within c =
    steps_within c.args.parts.now c.in_ok-steps.steps c.in_ok-steps.ensures.steps

pub least_on_cycle-requires-clause-within : goal.least_on_cycle-requires-clause-within
least_on_cycle-requires-clause-within c =
    steps_within c.args.parts.now c.in_ok-steps.steps c.in_ok-steps.ensures.steps

pub returns-in-Some : goal.returns-in-Some
returns-in-Some c =
    let steps = c.in_ok-steps.steps in
    least_cyclic c.args.parts.now steps c.in_ok-steps.ensures.steps c.in-Some.category
    (subst (FindsLeastOnCycle steps) c.in-Some.is c.in_ok-category.ensures)

pub returns : goal.returns
returns c =
    let g = c.args.parts.now in
    let steps = c.in_ok-steps.steps in
    let none = subst (FindsLeastOnCycle steps) c.in-None.is c.in_ok-category.ensures in (
      none_cyclic g steps c.in_ok-steps.ensures.steps none,
      heights_are_ranks g steps c.in_ok-steps.ensures.steps c.in_ok-heights.heights.items
          c.in_ok-told_heights-in-None.field-0.items none c.in_ok-heights.ensures
          (rw c.as_slice-in-None.ensures.value at c.in_ok-told_heights-in-None.ensures),
    )
