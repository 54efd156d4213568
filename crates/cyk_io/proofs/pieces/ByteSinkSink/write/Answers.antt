-- What is written of a piece is written of all bytes.
use Rattle.std.proofs.Common.{Some, List, ℕ, refl, ap, subst, take, drop}
use Rattle.std.proofs.lemmas.List.{take-append-drop}
use Rattle.cyk_io.specs.Streams.{Writes}
use Rattle.cyk_io.proofs.MemoryLemmas.{room_of_piece}
use Rattle.cyk_io.proofs.StreamsLemmas.{Writes-append}
use Rattle.cyk_io.proofs.pieces.ByteSinkSink.write.Goals as goal

pub returns-clause-bytes : goal.returns-clause-bytes
returns-clause-bytes c =
    let fields = c.self.inside in
    let written = ap (λ sink. sink.bytes) c.self.view_is in
    let from : List ℕ = c.args.from.now in
    let most = c.min-most.result in
    let IsWritten : List ℕ → Type 0 = Writes (Some fields.bytes) (Some c.write.new.self) c.write.result in
    let room = room_of_piece from (take most from) fields.piece most c.self.invariant c.min-most.ensures refl in
    let whole = Writes-append (Some fields.bytes) (Some c.write.new.self) c.write.result (take most from)
    (drop most from) room c.write.ensures.bytes in
    rw (← written) (subst IsWritten (take-append-drop most from) whole)
