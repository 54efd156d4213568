use Rattle.std.proofs.Common.{refl}
use Rattle.cyk_io.proofs.AheadLemmas.{coming_refilled}
use Rattle.cyk_io.proofs.ahead.fill.Goals as goal

pub returns-clause-bytes : goal.returns-clause-bytes
returns-clause-bytes g c =
    coming_refilled c.args.ahead.now (g.S.Source.left c.args.source.now) (g.S.Source.left c.read.new.self) c.in_ok-count.count c.read.new.into _
    c.requires.held refl c.in_ok-count.ensures.bytes.1
