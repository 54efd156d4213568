-- At first all is left; a node is entered and those behind which nothing is left are closed; and in the end all is written.
use Rattle.std.proofs.Common.{ℕ, List, Option, [], ◌∷◌, ◌++◌, sym, subst, arith}
use Rattle.spec_trees.specs.TreeText.{tree_text}
use Rattle.tree_nodes.specs.TreeNodes.{preorder}
use Rattle.first_tree.specs.declared.open_node.OpenNode.{OpenNode}
use Rattle.first_tree.specs.OpenNodes.{Advances}
use Rattle.first_tree.proofs.PrintingLemmas.{root_node, all_left, stays, all_at_end, some_at_node, left_at_node, entering_fails, goes_on, closing_fails}
use Rattle.first_tree.proofs.printing.print_gathered.Goals as goal

pub loop-node-init : goal.loop-node-init
loop-node-init g c =
    let parsed = c.args.grammar.now in
    let text : List ℕ = (c.args.text.now).bytes in
    let tokens = (c.args.text.now).tokens in
    let tree = c.args.tree.now in
    let old : Option (List ℕ) × List ℕ = (g.K.Sink.written c.args.sink.now, c.args.gathered.now) in
    let (s, i, j, is) = c.requires.fits in
    let P : List OpenNode → Type 0 = λ stack.
    Advances parsed text tokens old old (tree_text parsed text tokens tree) (stack ++ root_node ∷ []) (preorder tree) in
    record {
      advances = subst P (sym c.new-stack.ensures.items)
          (stays parsed text tokens old (tree_text parsed text tokens tree) ([] ++ root_node ∷ []) (preorder tree)
          (all_left parsed text tokens tree s i j is));
      ready = λ none. c.new-stack.ensures.items;
      later = omega arith;
    }

pub enter-requires-clause-some : goal.enter-requires-clause-some
enter-requires-clause-some g c =
    some_at_node c.args.grammar.now (c.args.text.now).bytes (c.args.text.now).tokens c.args.tree.now
    c.nodes-node-items.result.now c.loop-node.node-index c.loop-node.stack.items c.loop-node.top
    (g.K.Sink.written c.args.sink.now, c.args.gathered.now) (g.K.Sink.written c.loop-node.sink, c.loop-node.gathered) c.nodes-node-items.ensures
    c.loop-node.invariant.ready c.loop-node.invariant.advances c.loop-node-test.true

pub enter-requires-clause-left : goal.enter-requires-clause-left
enter-requires-clause-left g c =
    left_at_node c.args.grammar.now (c.args.text.now).bytes (c.args.text.now).tokens c.args.tree.now
    c.nodes-node-items.result.now c.loop-node.node-index c.loop-node.stack.items c.loop-node.top
    (g.K.Sink.written c.args.sink.now, c.args.gathered.now) (g.K.Sink.written c.loop-node.sink, c.loop-node.gathered) c.nodes-node-items.ensures
    c.loop-node.invariant.ready c.loop-node.invariant.advances c.loop-node-test.true

pub returns-in_err-inner-clause-err : goal.returns-in_err-inner-clause-err
returns-in_err-inner-clause-err g c =
    entering_fails c.args.grammar.now (c.args.text.now).bytes (c.args.text.now).tokens c.args.tree.now
    c.nodes-node-items.result.now c.loop-node.node-index c.loop-node.stack.items c.loop-node.top
    (g.K.Sink.written c.args.sink.now, c.args.gathered.now) (g.K.Sink.written c.loop-node.sink, c.loop-node.gathered) c.nodes-node-items.ensures
    c.loop-node.invariant.ready c.loop-node.invariant.advances c.loop-node-test.true
    (g.K.Sink.written c.enter.new.sink, c.enter.new.gathered) c.from_residual.result c.in_err-inner.ensures.err

pub returns-in_err-top-clause-err : goal.returns-in_err-top-clause-err
returns-in_err-top-clause-err g c =
    closing_fails c.args.grammar.now (c.args.text.now).bytes (c.args.text.now).tokens c.args.tree.now
    c.nodes-node-items.result.now c.loop-node.node-index c.loop-node.stack.items c.loop-node.top
    (g.K.Sink.written c.args.sink.now, c.args.gathered.now) (g.K.Sink.written c.loop-node.sink, c.loop-node.gathered) c.nodes-node-items.ensures
    c.loop-node.invariant.ready c.loop-node.invariant.advances c.loop-node-test.true
    (g.K.Sink.written c.enter.new.sink, c.enter.new.gathered) c.enter.new.stack.items c.in_ok-inner.inner c.in_ok-inner.ensures.ok
    (g.K.Sink.written c.close.new.sink, c.close.new.gathered) c.from_residual-in_err-top.result c.in_err-top.ensures.err

pub loop-node-preserved : goal.loop-node-preserved
loop-node-preserved g c = record {
  advances =
      goes_on c.args.grammar.now (c.args.text.now).bytes (c.args.text.now).tokens c.args.tree.now
      c.nodes-node-items.result.now c.loop-node.node-index c.loop-node.stack.items c.loop-node.top
      (g.K.Sink.written c.args.sink.now, c.args.gathered.now) (g.K.Sink.written c.loop-node.sink, c.loop-node.gathered) c.nodes-node-items.ensures
      c.loop-node.invariant.ready c.loop-node.invariant.advances c.loop-node-test.true
      (g.K.Sink.written c.enter.new.sink, c.enter.new.gathered) c.enter.new.stack.items c.in_ok-inner.inner c.in_ok-inner.ensures.ok
      (g.K.Sink.written c.close.new.sink, c.close.new.gathered) c.close.new.stack.items c.in_ok-top.top c.in_ok-top.ensures.ok;
  ready = c.in_ok-top.ensures.some;
  later =
      omega (arith, c.loop-node.invariant.later, c.in_ok-inner.ensures.cause.later, c.in_ok-top.ensures.cause.later);
}

pub returns-clause-ok : goal.returns-clause-ok
returns-clause-ok g c =
    all_at_end c.args.grammar.now (c.args.text.now).bytes (c.args.text.now).tokens c.args.tree.now
    c.nodes-node-items.result.now c.loop-node.node-index c.loop-node.stack.items c.loop-node.top
    (g.K.Sink.written c.args.sink.now, c.args.gathered.now) (g.K.Sink.written c.loop-node.sink, c.loop-node.gathered) c.nodes-node-items.ensures
    c.loop-node.invariant.ready c.loop-node.invariant.advances (omega arith)
