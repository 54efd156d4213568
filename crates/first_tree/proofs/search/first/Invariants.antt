-- The nodes so far, and those of what is kept, are the nodes of the first tree.
use Rattle.std.proofs.Common.{◌-◌, length}
use Rattle.spec_text.specs.declared.limits.TheConstants.{MAX_NODES}
use Rattle.first_tree.specs.Searching.{IsUnderWay}
use Rattle.first_tree.proofs.search.first.Given as goal

abbrev pub invariant-loop-nodes : goal.invariant-loop-nodes
invariant-loop-nodes g l =
    IsUnderWay (l.bin).rules (l.chart).kinds (l.fn).symbol l.i l.j (l.nodes).items (l.kept).items

abbrev pub decreases-loop-nodes : goal.decreases-loop-nodes
decreases-loop-nodes g l = MAX_NODES - length (l.nodes).items
