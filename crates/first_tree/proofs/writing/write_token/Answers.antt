-- The name is added, and then a colon and the bytes.
use Rattle.std.proofs.Common.{◌∷◌, ◌++◌}
use Rattle.spec_text.specs.Escapes.{printed}
use Rattle.cyk_io.proofs.GatheringLemmas.{then_all, then_prefix}
use Rattle.first_tree.proofs.writing.write_token.Goals as goal

pub returns-clause-ok : goal.returns-clause-ok
returns-clause-ok g c =
    then_all (g.K.Sink.written c.args.sink.now) (g.K.Sink.written c.write_both.new.sink)
    (g.K.Sink.written c.write_printed.new.sink) c.args.gathered.now (c.args.lead.now ++ c.args.name.now)
    c.write_both.new.gathered (58 ∷ printed c.args.bytes.now) c.write_printed.new.gathered c.in_ok-write_both.ensures.ok
    c.write_printed.result c.write_printed.ensures.ok

pub returns-clause-err : goal.returns-clause-err
returns-clause-err g c =
    then_prefix (g.K.Sink.written c.args.sink.now) (g.K.Sink.written c.write_both.new.sink)
    (g.K.Sink.written c.write_printed.new.sink) c.args.gathered.now (c.args.lead.now ++ c.args.name.now)
    c.write_both.new.gathered (58 ∷ printed c.args.bytes.now) c.write_printed.new.gathered c.in_ok-write_both.ensures.ok
    c.write_printed.result c.write_printed.ensures.err
