-- Of a kind that the grammar does not have nothing is printed.
use Rattle.first_tree.specs.Wanted.{first_wanted}
use Rattle.first_tree.proofs.PrintingLemmas.{unprinted_passes}
use Rattle.first_tree.proofs.printing.enter_leaf.Goals as goal

pub returns-in_default-clause-ok : goal.returns-in_default-clause-ok
returns-in_default-clause-ok g c =
    unprinted_passes c.args.grammar.now (c.args.text.now).bytes (c.args.text.now).tokens c.args.node.kind
    c.args.node.first c.args.node.end
    (let (is_past, not_here, not_before, past, found) = rw c.kinds.ensures.items at c.in_default.ensures.lookup in past)
    (g.K.Sink.written c.args.sink.now) c.args.gathered.now (first_wanted c.args.top.plan)
