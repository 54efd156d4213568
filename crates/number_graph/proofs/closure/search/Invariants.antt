use Rattle.number_graph.specs.Flags.{HasLookedAt, work_left}
use Rattle.number_graph.proofs.closure.search.Given as goal

abbrev pub invariant-loop-number : goal.invariant-loop-number
invariant-loop-number l =
    HasLookedAt l.links l.starts (l.flags).items (l.waiting).items (l.numbers).items

abbrev pub decreases-loop-number : goal.decreases-loop-number
decreases-loop-number l = work_left (l.flags).items (l.waiting).items
