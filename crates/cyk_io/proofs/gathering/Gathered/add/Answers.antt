-- What is gathered is written, and then what comes behind it.
use Rattle.std.proofs.Common.{◌∙◌}
use Rattle.cyk_io.proofs.GatheringLemmas.{added, add_cut}
use Rattle.cyk_io.proofs.gathering.Gathered.add.Goals as goal

pub returns-clause-ok : goal.returns-clause-ok
returns-clause-ok g c =
    added (g.K.Sink.written c.args.sink.now) (g.K.Sink.written c.flush.new.sink)
    (g.K.Sink.written c.write_all_counted.new.sink) c.args.self.now c.gather.new.self c.args.bytes.now
    c.gather-2.new.self (c.gather.ensures.no c.if-gather.false) c.in_ok-flush.ensures.ok
    (c.gather-2.ensures.no c.if-gather-2.false ∙ c.in_ok-flush.ensures.empty)
    c.write_all_counted.result c.write_all_counted.ensures.ok

pub returns-clause-err : goal.returns-clause-err
returns-clause-err g c =
    add_cut (g.K.Sink.written c.args.sink.now) (g.K.Sink.written c.flush.new.sink)
    (g.K.Sink.written c.write_all_counted.new.sink) c.args.self.now c.gather.new.self c.args.bytes.now
    c.gather-2.new.self (c.gather.ensures.no c.if-gather.false) c.in_ok-flush.ensures.ok
    c.write_all_counted.result c.write_all_counted.ensures.err
