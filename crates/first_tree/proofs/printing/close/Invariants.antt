-- What is written so far, and then what is left, is what was left.
use Rattle.std.proofs.Common.{ℕ, ◌≤◌, List, [], ◌∷◌, ◌++◌, length}
use Rattle.spec_lexing.specs.declared.token.Token.{Token}
use Rattle.spec_grammar.specs.Grammars.{Grammar}
use Rattle.tree_nodes.specs.declared.node.TreeNode.{TreeNode}
use Rattle.first_tree.specs.OpenNodes.{IsLeft, Advances}
use Rattle.first_tree.proofs.printing.close.Given as goal

abbrev pub invariant-loop-top : goal.invariant-loop-top
invariant-loop-top g l = record {
  advances : (g' : Grammar) (text : List ℕ) (tokens : List Token) (nodes : List TreeNode) (bytes : List ℕ)
      → IsLeft g' text tokens (l.fn.stack.items ++ l.fn.top ∷ []) nodes bytes
      → Advances g' text tokens (g.K.Sink.written l.fn.sink, l.fn.gathered) (g.K.Sink.written l.sink, l.gathered) bytes
      (l.stack.items ++ l.top ∷ []) nodes;
  later : g.K.Sink.faults l.fn.sink ≤ g.K.Sink.faults l.sink;
}

abbrev pub decreases-loop-top : goal.decreases-loop-top
decreases-loop-top g l = length l.stack.items
