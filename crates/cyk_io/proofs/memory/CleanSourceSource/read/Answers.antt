use Rattle.std.proofs.Common.{arith}
use Rattle.cyk_io.proofs.MemoryLemmas.{takes_copied, at_end_copied}
use Rattle.cyk_io.proofs.memory.CleanSourceSource.read.Goals as goal

pub returns-clause-bytes : goal.returns-clause-bytes
returns-clause-bytes c =
    let copy = c.copy_front-count in
    let fields = c.self.inside in
    let bytes = fields.bytes.items in
    let counted = rw c.as_slice.ensures.value at copy.ensures.count in (
      omega (arith, copy.ensures.count),
      takes_copied bytes _ copy.new.into fields.at copy.result c.self.view_is (rw c.as_slice.ensures.value at copy.ensures.bytes),
      λ none some. at_end_copied bytes fields.at copy.result none (omega (arith, none, counted, some)),
    )
