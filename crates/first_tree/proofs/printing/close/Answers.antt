-- Nothing is written at first, and then what comes behind each node.
use Rattle.std.proofs.Common.{List, [], ◌∷◌, ◌++◌, ◌∙◌, append-nil, subst, arith}
use Rattle.first_tree.specs.declared.open_node.OpenNode.{OpenNode}
use Rattle.first_tree.specs.OpenNodes.{StopsIn, Advances}
use Rattle.first_tree.proofs.WritingLemmas.{on_error}
use Rattle.first_tree.proofs.PrintingLemmas.{stays, advances_more, stops_behind, closing_advances, closing_stops}
use Rattle.first_tree.proofs.printing.close.Goals as goal

pub loop-top-init : goal.loop-top-init
loop-top-init g c = record {
  advances = λ parsed text tokens nodes bytes left.
      stays parsed text tokens (g.K.Sink.written c.args.sink.now, c.args.gathered.now) bytes (c.args.stack.now.items ++ c.args.top ∷ []) nodes left;
  later = omega arith;
}

pub loop-top-preserved : goal.loop-top-preserved
loop-top-preserved g c = record {
  advances = λ parsed text tokens nodes bytes left.
      advances_more parsed text tokens (g.K.Sink.written c.args.sink.now, c.args.gathered.now) (g.K.Sink.written c.loop-top.sink, c.loop-top.gathered)
      (g.K.Sink.written c.write_closing.new.sink, c.write_closing.new.gathered) bytes (c.loop-top.stack.items ++ c.loop-top.top ∷ [])
      (c.pop.new.self.items ++ c.past-top.result ∷ []) nodes nodes
      (c.loop-top.invariant.advances parsed text tokens nodes bytes left)
      (λ rest behind. closing_advances parsed text tokens c.loop-top.stack.items c.pop.new.self.items c.in-Some.below
      c.loop-top.top nodes rest (omega (arith, c.loop-top-test.true)) c.in-Some.ensures.items behind
      (g.K.Sink.written c.loop-top.sink, c.loop-top.gathered) (g.K.Sink.written c.write_closing.new.sink, c.write_closing.new.gathered) c.past-top.result
      c.in_ok-write_closing.ensures.ok c.past-top.ensures);
  later = omega (arith, c.loop-top.invariant.later, c.in_ok-write_closing.ensures.cause.later);
}

pub returns-in_err-write_closing-clause-err : goal.returns-in_err-write_closing-clause-err
returns-in_err-write_closing-clause-err g c = λ parsed text tokens nodes bytes left.
    on_error (StopsIn (g.K.Sink.written c.args.sink.now, c.args.gathered.now) (g.K.Sink.written c.write_closing.new.sink, c.write_closing.new.gathered) bytes)
    c.from_residual.result
    (stops_behind parsed text tokens (g.K.Sink.written c.args.sink.now, c.args.gathered.now) (g.K.Sink.written c.loop-top.sink, c.loop-top.gathered)
    (g.K.Sink.written c.write_closing.new.sink, c.write_closing.new.gathered) bytes (c.loop-top.stack.items ++ c.loop-top.top ∷ []) nodes
    (c.loop-top.invariant.advances parsed text tokens nodes bytes left)
    (λ rest behind. closing_stops parsed text tokens c.loop-top.stack.items c.pop.new.self.items c.in-Some.below
    c.loop-top.top nodes rest (omega (arith, c.loop-top-test.true)) c.in-Some.ensures.items behind
    (g.K.Sink.written c.loop-top.sink, c.loop-top.gathered) (g.K.Sink.written c.write_closing.new.sink, c.write_closing.new.gathered) c.in_err-write_closing.ensures.err))

pub returns-in_default-clause-ok : goal.returns-in_default-clause-ok
returns-in_default-clause-ok g c = λ parsed text tokens nodes bytes left.
    let P : List OpenNode → Type 0 = λ stack.
    Advances parsed text tokens (g.K.Sink.written c.args.sink.now, c.args.gathered.now) (g.K.Sink.written c.loop-top.sink, c.loop-top.gathered) bytes
    (stack ++ c.loop-top.top ∷ []) nodes in
    subst P (c.in_default.ensures.items ∙ append-nil c.pop.new.self.items)
    (c.loop-top.invariant.advances parsed text tokens nodes bytes left)
