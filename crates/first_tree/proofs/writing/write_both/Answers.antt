-- The first bytes are added, and then the second.
use Rattle.cyk_io.proofs.GatheringLemmas.{then_all, then_prefix}
use Rattle.first_tree.proofs.writing.write_both.Goals as goal

pub returns-clause-ok : goal.returns-clause-ok
returns-clause-ok g c =
    then_all (g.K.Sink.written c.args.sink.now) (g.K.Sink.written c.add.new.sink)
    (g.K.Sink.written c.add-2.new.sink) c.args.gathered.now c.args.first.now c.add.new.self c.args.second.now
    c.add-2.new.self c.in_ok-add.ensures.ok c.add-2.result c.add-2.ensures.ok

pub returns-clause-err : goal.returns-clause-err
returns-clause-err g c =
    then_prefix (g.K.Sink.written c.args.sink.now) (g.K.Sink.written c.add.new.sink)
    (g.K.Sink.written c.add-2.new.sink) c.args.gathered.now c.args.first.now c.add.new.self c.args.second.now
    c.add-2.new.self c.in_ok-add.ensures.ok c.add-2.result c.add-2.ensures.err
