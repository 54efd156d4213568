-- The text passes, and its LF behind it.
use Rattle.std.proofs.Common.{ℕ, ◌∷◌, List, []}
use Rattle.cyk_io.proofs.GatheringLemmas.{then_all, then_prefix, cut_of_both}
use Rattle.first_tree.specs.Printing.{text_of}
use Rattle.chart_service.proofs.RepliesLemmas.{at_error}
use Rattle.chart_service.proofs.replies.Replies.say_tree.Goals as goal

pub returns-in_err-print_gathered-clause-err : goal.returns-in_err-print_gathered-clause-err
returns-in_err-print_gathered-clause-err g c =
    let text : List ℕ = text_of c.args.grammar.now c.args.text.now c.args.tree.now in
    at_error _ c.from_residual.result
    (cut_of_both (g.K.Sink.written c.args.sink.now) (g.K.Sink.written c.print_gathered.new.sink) c.args.self.now text (10 ∷ [])
    (rw c.self.view_is at c.in_err-print_gathered.ensures.err))

pub returns-clause-ok : goal.returns-clause-ok
returns-clause-ok g c =
    let text : List ℕ = text_of c.args.grammar.now c.args.text.now c.args.tree.now in
    then_all (g.K.Sink.written c.args.sink.now) (g.K.Sink.written c.print_gathered.new.sink)
    (g.K.Sink.written c.add.new.sink) c.args.self.now text c.print_gathered.new.gathered (10 ∷ []) c.add.new.self
    (rw c.self.view_is at c.in_ok-print_gathered.ensures.ok) c.add.result (rw c.as_slice.ensures at c.add.ensures.ok)

pub returns-clause-err : goal.returns-clause-err
returns-clause-err g c =
    let text : List ℕ = text_of c.args.grammar.now c.args.text.now c.args.tree.now in
    then_prefix (g.K.Sink.written c.args.sink.now) (g.K.Sink.written c.print_gathered.new.sink)
    (g.K.Sink.written c.add.new.sink) c.args.self.now text c.print_gathered.new.gathered (10 ∷ []) c.add.new.self
    (rw c.self.view_is at c.in_ok-print_gathered.ensures.ok) c.add.result (rw c.as_slice.ensures at c.add.ensures.err)
