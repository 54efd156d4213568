-- What is left gathered is written in the end.
use Rattle.first_tree.specs.Printing.{text_of}
use Rattle.first_tree.proofs.WritingLemmas.{all_written, cut_written}
use Rattle.first_tree.proofs.printing.print.Goals as goal

pub returns-clause-ok : goal.returns-clause-ok
returns-clause-ok g c =
    all_written (g.K.Sink.written c.args.sink.now) (g.K.Sink.written c.print_gathered.new.sink)
    (g.K.Sink.written c.flush.new.sink) c.new-gathered.result
    (text_of c.args.grammar.now c.args.text.now c.args.tree.now) c.print_gathered.new.gathered
    c.new-gathered.ensures c.in_ok-print_gathered.ensures.ok c.flush.result c.flush.ensures.ok

pub returns-clause-err : goal.returns-clause-err
returns-clause-err g c =
    cut_written (g.K.Sink.written c.args.sink.now) (g.K.Sink.written c.print_gathered.new.sink)
    (g.K.Sink.written c.flush.new.sink) c.new-gathered.result
    (text_of c.args.grammar.now c.args.text.now c.args.tree.now) c.print_gathered.new.gathered
    c.new-gathered.ensures c.in_ok-print_gathered.ensures.ok c.flush.result c.flush.ensures.err
