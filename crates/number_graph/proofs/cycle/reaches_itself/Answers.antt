use Rattle.number_graph.proofs.cycle.reaches_itself.Goals as goal

pub reached_from_any-requires-clause-starts : goal.reached_from_any-requires-clause-starts
reached_from_any-requires-clause-starts c = rw c.from.ensures (c.requires.within c.args.number)
