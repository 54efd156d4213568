use Rattle.std.proofs.Common.{Some, ap, drop}
use Rattle.cyk_io.proofs.MemoryLemmas.{room_of_piece}
use Rattle.cyk_io.proofs.StreamsLemmas.{Reads-append}
use Rattle.cyk_io.proofs.pieces.ByteSourceSource.read.Goals as goal

pub returns-clause-bytes : goal.returns-clause-bytes
returns-clause-bytes c =
    let fields = c.self.inside in
    let left = ap (λ source. source.bytes) c.self.view_is in
    let most = c.min-most.result in
    let front = c.read.new.into in
    let room = room_of_piece c.args.into.now front fields.piece most c.self.invariant c.min-most.ensures c.read.auto.into in
    rw (← left) (Reads-append (Some fields.bytes) (Some c.read.new.self) c.read.result front (drop most c.args.into.now) room c.read.ensures.bytes)
