-- What is written so far, and then what is left of the open nodes, is the whole text.
use Rattle.std.proofs.Common.{◌≡◌, ◌≤◌, [], ◌∷◌, ◌++◌, drop}
use Rattle.tree_nodes.specs.TreeNodes.{preorder}
use Rattle.spec_trees.specs.TreeText.{tree_text}
use Rattle.first_tree.specs.OpenNodes.{Advances}
use Rattle.first_tree.proofs.printing.print_gathered.Given as goal

abbrev pub invariant-loop-node : goal.invariant-loop-node
invariant-loop-node g l = record {
  advances : Advances l.grammar l.text.bytes l.text.tokens (g.K.Sink.written l.fn.sink, l.fn.gathered) (g.K.Sink.written l.sink, l.gathered)
      (tree_text l.grammar l.text.bytes l.text.tokens l.tree) (l.stack.items ++ l.top ∷ [])
      (drop l.node-index (preorder l.tree));
  ready : l.top.left ≡ 0 → l.stack.items ≡ [];
  later : g.K.Sink.faults l.fn.sink ≤ g.K.Sink.faults l.sink;
}
