use Rattle.std.proofs.Common.{Contains, arith}
use Rattle.binary_form.proofs.ReachedLemmas.{steps_within, reached_below, reached_numbers}
use Rattle.binary_form.proofs.build.closure_of.Goals as goal

pub reached_from-requires-clause-within : goal.reached_from-requires-clause-within
reached_from-requires-clause-within g c = steps_within c.args.grammar.now c.args.steps.now c.requires.steps

pub cell_of-requires-clause-room : goal.cell_of-requires-clause-room
cell_of-requires-clause-room g c lifetimes outlive n has =
    let numbers = c.in_ok-numbers.numbers.items in
    let held : Contains numbers n = rw c.as_slice.ensures.value at has in
    let below =
    reached_below c.args.grammar.now c.args.steps.now c.requires.steps c.args.number n c.requires.below
    ((c.in_ok-numbers.ensures.exact n).0 held) in
    omega (arith, below, c.requires.room)

pub returns : goal.returns
returns g c m =
    let held = rw c.as_slice.ensures.value at (c.in_ok-cell.ensures m) in
    let reached = reached_numbers c.args.grammar.now c.args.steps.now c.requires.steps c.args.number
    c.in_ok-numbers.numbers.items c.requires.own_symbols c.requires.below c.in_ok-numbers.ensures m in
    ((λ has. reached.0 (held.0 has)), (λ x. held.1 (reached.1 x)))
