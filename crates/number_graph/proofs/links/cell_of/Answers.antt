use Rattle.std.proofs.Common.{◌↔◌, ℕ, List, take, slice_index_or, subst}
use Rattle.std.specs.List.{Contains}
use Rattle.std.proofs.lemmas.List.{take_all, take_more}
use Rattle.number_graph.proofs.LinkLemmas.{alike_more}
use Rattle.number_graph.proofs.links.cell_of.Goals as goal

pub loop-number-preserved : goal.loop-number-preserved
loop-number-preserved c =
    let numbers = c.args.numbers.now in
    let place = c.loop-number.number-index in
    rw (take_more numbers place 0 c.loop-number-test.true)
    (alike_more (take place numbers) c.loop-number.cell c.insert.new.self (slice_index_or numbers place 0)
    c.loop-number.invariant c.in_ok-insert.ensures.ok)

pub returns : goal.returns
returns c =
    let numbers = c.args.numbers.now in
    let HasAll : List ℕ → Type 0 = λ xs. (n : ℕ) → Contains c.loop-number.cell n ↔ Contains xs n in
    subst HasAll (take_all c.loop-number.number-index numbers c.loop-number-test.false) c.loop-number.invariant
